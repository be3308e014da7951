-- The exit status of a call of words is one of five.
use Rattle.std.proofs.Common.{◌≤◌, ℕ, List, Option, Some, None, Result, Ok, Err}
use Rattle.build_core.specs.declared.event.Answered.{Answered}
use Rattle.build_core.specs.declared.event.Event.{Event}
use Rattle.cli_words.specs.declared.command_line.CommandLine.{CommandLine}
use Rattle.build_outcome.specs.declared.outcome.Outcome.{Outcome}
use Rattle.call_plan.specs.Seen.{After, Seen}
use Rattle.generated.specs.Whole.{IsLineCall, IsWordsCall}
use Rattle.mvn_call.specs.Promises.{Written}

module _ (seen : Seen) (after : After) (trace : List Event) (answers : List Answered) (out : Written) where
  line_bound : (generated : Option ℕ) (line : CommandLine) → IsLineCall generated line seen after trace answers out → out.status ≤ 4
  line_bound None line call = call.bound
  line_bound (Some poms) line call = call.bound

  -- whether the words ask for a build of the generated project, for another, or are refused
  pub words_bound : (asked : Result CommandLine Outcome) → IsWordsCall asked seen after trace answers out → out.status ≤ 4
  words_bound (Err answer) call = call.bound
  words_bound (Ok line) call = line_bound line.generated line call
