use Rattle.std.proofs.Common.{◌≡◌, ◌++◌, drop}
use Rattle.interpolation.proofs.names.push_all.Given as goal

abbrev pub invariant-loop-pair : goal.invariant-loop-pair
invariant-loop-pair l = l.list ++ drop l.pair-index l.pairs ≡ l.initial.list ++ l.pairs
