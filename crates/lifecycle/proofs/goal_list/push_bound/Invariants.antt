use Rattle.std.proofs.Common.{◌≡◌, ◌++◌, filter, flat_map, drop}
use Rattle.lifecycle.specs.Bindings.{row_view}
use Rattle.lifecycle.specs.Goals.{calls_of, declared, is_bound_by}
use Rattle.lifecycle.proofs.goal_list.push_bound.Given as goal

abbrev pub invariant-loop-plugin : goal.invariant-loop-plugin
invariant-loop-plugin l = l.calls ++ flat_map calls_of (filter (is_bound_by (row_view l.row)) (declared (drop l.plugin-index l.plugins))) ≡ l.initial.calls ++ flat_map calls_of (filter (is_bound_by (row_view l.row)) (declared l.plugins))
