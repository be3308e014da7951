use Rattle.std.proofs.Common.{◌≡◌, map, drop}
use Rattle.lifecycle.specs.Bindings.{row_view}
use Rattle.lifecycle.specs.Goals.{is_free}
use Rattle.lifecycle.proofs.goal_list.is_free.Given as goal

abbrev pub invariant-loop-row : goal.invariant-loop-row
invariant-loop-row l = is_free (map row_view (drop l.row-index l.rows)) (l.plugin, l.execution) ≡ is_free (map row_view l.rows) (l.plugin, l.execution)
