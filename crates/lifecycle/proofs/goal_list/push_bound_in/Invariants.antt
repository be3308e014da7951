use Rattle.std.proofs.Common.{◌≡◌, ◌++◌, map, filter, flat_map, drop}
use Rattle.lifecycle.specs.Bindings.{row_view}
use Rattle.lifecycle.specs.Goals.{calls_of, executions_of, is_bound_by}
use Rattle.lifecycle.proofs.goal_list.push_bound_in.Given as goal

abbrev pub invariant-loop-execution : goal.invariant-loop-execution
invariant-loop-execution l = l.calls ++ flat_map calls_of (filter (is_bound_by (row_view l.row)) (map (λ e. (l.plugin, e)) (drop l.execution-index l.execution-items))) ≡ l.initial.calls ++ flat_map calls_of (filter (is_bound_by (row_view l.row)) (executions_of l.plugin))
