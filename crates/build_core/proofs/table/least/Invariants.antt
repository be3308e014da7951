use Rattle.std.proofs.Common.{◌≡◌, None}
use Rattle.build_core.specs.Locks.{blocker_in}
use Rattle.build_core.proofs.table.least.Given as goal

-- no worker before this one keeps the other from it
abbrev pub invariant-loop-other : goal.invariant-loop-other
invariant-loop-other l = blocker_in l.row l.other l.worker l.mode ≡ None
