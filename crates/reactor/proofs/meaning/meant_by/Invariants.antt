use Rattle.std.proofs.Common.{◌≡◌, ◌++◌, drop, flat_map}
use Rattle.cli_words.specs.declared.command_line.Word.{Word}
use Rattle.reactor.specs.Meaning.{meant}
use Rattle.reactor.proofs.meaning.meant_by.Given as goal

abbrev pub invariant-loop-word : goal.invariant-loop-word
invariant-loop-word l = l.numbers.items ++ flat_map (λ (w : Word). meant l.modules w.text) (drop l.word-index l.words) ≡ flat_map (λ (w : Word). meant l.modules w.text) l.words
