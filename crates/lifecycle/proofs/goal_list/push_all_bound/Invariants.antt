use Rattle.std.proofs.Common.{◌≡◌, ◌++◌, map, filter, flat_map, drop}
use Rattle.lifecycle.specs.Bindings.{row_view}
use Rattle.lifecycle.specs.Goals.{calls_of, declared, is_bound_by}
use Rattle.lifecycle.proofs.goal_list.push_all_bound.Given as goal

abbrev pub invariant-loop-row : goal.invariant-loop-row
invariant-loop-row l = l.calls ++ flat_map calls_of (flat_map (λ b. filter (is_bound_by b) (declared l.plugins)) (map row_view (drop l.row-index l.rows))) ≡ l.initial.calls ++ flat_map calls_of (flat_map (λ b. filter (is_bound_by b) (declared l.plugins)) (map row_view l.rows))
