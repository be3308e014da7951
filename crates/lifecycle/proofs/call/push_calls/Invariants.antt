use Rattle.std.proofs.Common.{◌≡◌, ◌++◌, filter_map, drop}
use Rattle.lifecycle.specs.Goals.{call_in, calls_of, phase_at}
use Rattle.lifecycle.proofs.call.push_calls.Given as goal

abbrev pub invariant-loop-goal : goal.invariant-loop-goal
invariant-loop-goal l = l.calls ++ filter_map (λ g. call_in (l.plugin, l.execution) g (phase_at (l.plugin, l.execution) g)) (drop l.goal-index l.goal-items) ≡ l.initial.calls ++ calls_of (l.plugin, l.execution)
