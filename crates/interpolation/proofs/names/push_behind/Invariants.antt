use Rattle.std.proofs.Common.{◌≡◌, ◌++◌, drop}
use Rattle.interpolation.specs.Named.{behind}
use Rattle.interpolation.proofs.names.push_behind.Given as goal

abbrev pub invariant-loop-pair : goal.invariant-loop-pair
invariant-loop-pair l = l.list ++ behind l.front (drop l.pair-index l.pairs) ≡ l.initial.list ++ behind l.front l.pairs
