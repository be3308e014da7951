-- A whole call of words: as that of `mvn` if they ask for no generated project, and else a build of that, which leaves everything alone that
-- was given but for the sink. Project rules.
use Rattle.std.specs.Prelude.{◌≡◌, ◌⊎◌, ◌<◌, ◌≤◌, ℕ, List, Option, None, Some, Result, Ok, Err}
use Rattle.mvn_shared.specs.Cause.{HasRisen}
use Rattle.build_core.specs.declared.event.Answered.{Answered}
use Rattle.build_core.specs.declared.event.Event.{Event}
use Rattle.cli_words.specs.declared.command_line.CommandLine.{CommandLine}
use Rattle.build_outcome.specs.declared.outcome.Outcome.{Outcome}
use Rattle.call_plan.specs.Ending.{Ends, IsWhole, without_memory}
use Rattle.call_plan.specs.Seen.{After, Seen}
use Rattle.mvn_call.specs.Promises.{IsMvn, Written}
use Rattle.generated.specs.Generated.{IsGenerated, IsGeneratedRun, IsNothing, IsOfRun}

-- Of a build of the generated project of so many POMs. Below 3 the text and the status are those of the build by one hand. The events and
-- answers are those of a run over what was made, or there are none; with 0 and 1 it is a run. What is written is a part from the front of
-- the summary of a run, or of what is answered in place of a plan, and nothing where memory ran out before there was one. What was given
-- is as it was, and of all devices the sink alone may fail.
pub record IsGeneratedCall (poms : ℕ) (line : CommandLine) (seen : Seen) (after : After) (trace : List Event) (answers : List Answered) (out : Written) : Type 0 where
  pub outcome : out.status < 3 → (answer : Outcome) × IsGenerated poms line seen.machine answers answer × IsWhole answer out.status out.before out.now
  pub history : IsNothing trace answers ⊎ IsGeneratedRun poms line seen.machine trace answers
  pub ran : out.status < 2 → IsGeneratedRun poms line seen.machine trace answers
  pub causes : (wanted : Outcome) × ((IsGenerated poms line seen.machine answers wanted × IsOfRun poms line seen.machine trace answers wanted) ⊎ (wanted ≡ without_memory)) × Ends wanted out.status out.before out.now out.faults out.count
  pub refused : out.status ≡ 2 → IsNothing trace answers
  pub tree : after.faults ≡ seen.faults
  pub outside : after.outside ≡ seen.outside
  pub quiet : out.status < 3 → out.count ≡ out.faults
  pub fault : out.status ≡ 3 → HasRisen out.faults out.count
  pub bound : out.status ≤ 4

-- by what the words ask for
abbrev pub IsLineCall : Option ℕ → CommandLine → Seen → After → List Event → List Answered → Written → Type 0
IsLineCall None line seen after trace answers out = IsMvn (Ok line) seen after trace answers out
IsLineCall (Some poms) line seen after trace answers out = IsGeneratedCall poms line seen after trace answers out

abbrev pub IsWordsCall : Result CommandLine Outcome → Seen → After → List Event → List Answered → Written → Type 0
IsWordsCall (Err answer) seen after trace answers out = IsMvn (Err answer) seen after trace answers out
IsWordsCall (Ok line) seen after trace answers out = IsLineCall line.generated line seen after trace answers out
