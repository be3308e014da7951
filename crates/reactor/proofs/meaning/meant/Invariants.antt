use Rattle.std.proofs.Common.{◌≡◌, ◌++◌, drop}
use Rattle.reactor.specs.Meaning.{meant_from}
use Rattle.reactor.proofs.meaning.meant.Given as goal

abbrev pub invariant-loop-number : goal.invariant-loop-number
invariant-loop-number l = l.numbers.items ++ meant_from l.text l.number (drop l.number l.modules) ≡ meant_from l.text 0 l.modules
