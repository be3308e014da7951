use Rattle.std.proofs.Common.{◌≡◌, ◌++◌, map, filter, drop}
use Rattle.lifecycle.specs.Goals.{is_unbound, unbound_of, unbound_text}
use Rattle.lifecycle.proofs.unbound.push_execution.Given as goal

abbrev pub invariant-loop-goal : goal.invariant-loop-goal
invariant-loop-goal l = l.list ++ map (unbound_text (l.plugin, l.execution)) (filter (is_unbound (l.plugin, l.execution)) (drop l.goal-index l.goal-items)) ≡ l.initial.list ++ unbound_of (l.plugin, l.execution)
