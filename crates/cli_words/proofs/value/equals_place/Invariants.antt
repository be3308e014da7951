use Rattle.std.proofs.Common.{◌≡◌, ◌+◌, length, drop}
use Rattle.cli_words.specs.Options.{name_of}
use Rattle.cli_words.proofs.value.equals_place.Given as goal

abbrev pub invariant-loop-at : goal.invariant-loop-at
invariant-loop-at l = length (name_of l.word) ≡ l.at + length (name_of (drop l.at l.word))
