use Rattle.std.proofs.Common.{◌≡◌, ◌++◌, filter, drop, nat_eq}
use Rattle.mvn_base.specs.Phase.{phase_number}
use Rattle.goal_types.specs.declared.goal.GoalCall.{GoalCall}
use Rattle.lifecycle.proofs.goal_list.push_phase.Given as goal

abbrev pub invariant-loop-call : goal.invariant-loop-call
invariant-loop-call l = l.list ++ filter (λ (c : GoalCall). nat_eq (phase_number c.phase) l.number) (drop l.call-index l.calls) ≡ l.initial.list ++ filter (λ (c : GoalCall). nat_eq (phase_number c.phase) l.number) l.calls
