use Rattle.std.proofs.Common.{◌≡◌, ◌++◌, ℕ, List, drop}
use Rattle.reactor.specs.Index.{listed}
use Rattle.reactor.specs.Numbers.{has_artifact, numbers_from}
use Rattle.reactor.proofs.index.numbers_of.Given as goal

abbrev pub invariant-loop-number : goal.invariant-loop-number
invariant-loop-number l = (q : List ℕ) → listed l.map q ++ numbers_from (has_artifact q) l.number (drop l.number l.modules) ≡ numbers_from (has_artifact q) 0 l.modules
