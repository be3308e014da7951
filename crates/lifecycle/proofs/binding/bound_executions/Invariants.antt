use Rattle.std.proofs.Common.{◌≡◌, ◌++◌, map, filter, drop}
use Rattle.lifecycle.specs.Bindings.{bound_execution, row_view}
use Rattle.std.specs.Str.{bytes_eq}
use Rattle.lifecycle.proofs.binding.bound_executions.Given as goal

abbrev pub invariant-loop-row : goal.invariant-loop-row
invariant-loop-row l = l.list ++ map bound_execution (filter (λ b. bytes_eq l.name b.plugin) (map row_view (drop l.row-index l.rows))) ≡ map bound_execution (filter (λ b. bytes_eq l.name b.plugin) (map row_view l.rows))
