use Rattle.std.proofs.Common.{◌≡◌, drop}
use Rattle.std.specs.List.{list_any}
use Rattle.collector.specs.Nodes.{is_same}
use Rattle.collector.proofs.node.is_listed.Given as goal

abbrev pub invariant-loop-exclusion : goal.invariant-loop-exclusion
invariant-loop-exclusion l = list_any (is_same l.group l.artifact) l.items ≡ list_any (is_same l.group l.artifact) (drop l.exclusion-index l.items)
