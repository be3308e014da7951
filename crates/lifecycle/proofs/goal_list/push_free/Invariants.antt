use Rattle.std.proofs.Common.{◌≡◌, ◌++◌, map, filter, flat_map, drop}
use Rattle.lifecycle.specs.Bindings.{row_view}
use Rattle.lifecycle.specs.Goals.{calls_of, declared, is_free}
use Rattle.lifecycle.proofs.goal_list.push_free.Given as goal

abbrev pub invariant-loop-plugin : goal.invariant-loop-plugin
invariant-loop-plugin l = l.calls ++ flat_map calls_of (filter (is_free (map row_view l.rows)) (declared (drop l.plugin-index l.plugins))) ≡ l.initial.calls ++ flat_map calls_of (filter (is_free (map row_view l.rows)) (declared l.plugins))
