use Rattle.std.proofs.Common.{◌≡◌, ◌++◌, map, drop}
use Rattle.report.specs.BuildDetails.{unbound_note}
use Rattle.report.proofs.notes.push_unbound.Given as goal

-- the notes so far, and those that are left
abbrev pub invariant-loop-goal : goal.invariant-loop-goal
invariant-loop-goal l = l.list ++ map unbound_note (drop l.goal-index l.unbound) ≡ l.fn.list ++ map unbound_note l.unbound
