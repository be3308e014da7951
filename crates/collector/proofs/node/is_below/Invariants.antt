use Rattle.std.proofs.Common.{◌≡◌, length}
use Rattle.std.specs.List.{list_any}
use Rattle.collector.specs.Nodes.{is_same}
use Rattle.collector.proofs.node.is_below.Given as goal

abbrev pub invariant-loop-at : goal.invariant-loop-at
invariant-loop-at l = list_any (is_same l.group l.artifact) l.at ≡ list_any (is_same l.group l.artifact) l.node

abbrev pub decreases-loop-at : goal.decreases-loop-at
decreases-loop-at l = length l.at
