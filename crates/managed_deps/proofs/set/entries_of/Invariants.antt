use Rattle.std.proofs.Common.{◌≡◌, ◌++◌, drop}
use Rattle.managed_deps.proofs.set.entries_of.Given as goal

abbrev pub invariant-loop-row : goal.invariant-loop-row
invariant-loop-row l = l.list ++ drop l.row-index l.rows ≡ l.rows
