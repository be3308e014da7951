use Rattle.std.proofs.Common.{◌≡◌, drop}
use Rattle.collector.specs.Excluding.{is_excluded}
use Rattle.collector.proofs.node.is_excluded.Given as goal

abbrev pub invariant-loop-exclusion : goal.invariant-loop-exclusion
invariant-loop-exclusion l = is_excluded l.items l.dependency ≡ is_excluded (drop l.exclusion-index l.items) l.dependency
