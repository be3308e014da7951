-- What the words of a call ask for. Project rule.
use Rattle.std.specs.Prelude.{ℕ, List, Result, Ok, Err}
use Rattle.cli_words.specs.Options.{options}
use Rattle.cli_words.specs.declared.command_line.CommandLine.{CommandLine}
use Rattle.cli_words.specs.declared.fault.WordFault.{WordFault}
use Rattle.build_outcome.specs.declared.outcome.Outcome.{Outcome}
use Rattle.call_plan.specs.Outcome.{word_fault}

abbrev pub of_options : Result CommandLine WordFault → Result CommandLine Outcome
of_options (Err fault) = Err (word_fault fault)
of_options (Ok line) = Ok line

-- what the words ask for, of so many hands, or what is answered in its place: their first fault
abbrev pub asked : List (List ℕ) → (hands : ℕ) → Result CommandLine Outcome
asked words hands = of_options (options words hands)
