use Rattle.std.proofs.Common.{◌≡◌, ◌++◌, map, drop}
use Rattle.lifecycle.specs.Bindings.{row_view}
use Rattle.lifecycle.proofs.binding.names_of.Given as goal

abbrev pub invariant-loop-row : goal.invariant-loop-row
invariant-loop-row l = l.names ++ map (λ b. b.plugin) (map row_view (drop l.row-index l.rows)) ≡ map (λ b. b.plugin) (map row_view l.rows)
