use Rattle.std.proofs.Common.{◌≡◌}
use Rattle.lifecycle.specs.Goals.{calls_before}
use Rattle.lifecycle.proofs.goal_list.by_phases.Given as goal

abbrev pub invariant-loop-number : goal.invariant-loop-number
invariant-loop-number l = l.list ≡ calls_before l.number l.calls
