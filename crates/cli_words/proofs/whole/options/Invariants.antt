use Rattle.std.proofs.Common.{◌≡◌, ◌≤◌, true, drop, is_some}
use Rattle.cli_words.specs.Options.{no_words, read_words}
use Rattle.cli_words.proofs.whole.options.Given as goal

abbrev pub invariant-loop-at : goal.invariant-loop-at
invariant-loop-at l = record {
  awaited : is_some l.line.awaits ≡ true → 1 ≤ l.at;
  read : read_words 0 no_words l.words ≡ read_words l.at l.line (drop l.at l.words);
}
