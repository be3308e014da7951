use Rattle.std.proofs.Common.{◌≡◌, ◌++◌, None, drop, map, replicate}
use Rattle.board.specs.Tables.{goal_counts}
use Rattle.board.proofs.table.no_places.Given as goal

abbrev pub invariant-loop-module : goal.invariant-loop-module
invariant-loop-module l = map (λ row. row.items) l.rows.items ++ map (λ n. replicate n None) (goal_counts (drop l.module-index l.fn.modules)) ≡ map (λ n. replicate n None) (goal_counts l.fn.modules)
