-- A call in which nothing fails is answered in full. Project rule.
use Rattle.std.specs.Prelude.{◌≡◌, ◌⊎◌, ◌<◌, ◌≤◌, ℕ, List, length, Option, Result}
use Rattle.mvn_shared.specs.Cause.{HasRisen, last_count}
use Rattle.build_core.specs.declared.event.Answered.{Answered}
use Rattle.build_core.specs.declared.event.Event.{Event}
use Rattle.cli_words.specs.declared.command_line.CommandLine.{CommandLine}
use Rattle.crew_turns.specs.Hands.{HandState}
use Rattle.crew.specs.CrewOutcomes.{hand_of}
use Rattle.build_outcome.specs.declared.outcome.Outcome.{Outcome}
use Rattle.call_plan.specs.Ending.{Ends, IsWhole}
use Rattle.call_plan.specs.Headline.{Comes, IsWanted, NoneFailed, OneFailed}
use Rattle.call_plan.specs.Seen.{After, Seen, used}

-- the clauses `causes`, `fault` and `bound` of `mvn`
pub record EndsCall (asked : Result CommandLine Outcome) (seen : Seen) (after : After) (trace : List Event) (answers : List Answered) (status : ℕ) (before now : Option (List ℕ)) (sink_before sink_now : ℕ) : Type 0 where
  pub wanted : Outcome
  pub comes : IsWanted asked seen after trace answers wanted
  pub ends : Ends wanted status before now sink_before sink_now
  pub fault : status ≡ 3 → HasRisen sink_before sink_now ⊎ OneFailed asked seen after
  pub bound : status ≤ 4

-- counts that can rise still
pub record CanRise (hand : HandState) : Type 0 where
  pub remote : hand.remote < last_count
  pub area : hand.area < last_count
  pub gate : hand.gate < last_count

-- no count rose, of the project's folder, the repository, the output and the hands that are used; and none stood at its end
pub record NothingFailed (asked : Result CommandLine Outcome) (seen : Seen) (after : After) (sink_before sink_now : ℕ) : Type 0 where
  pub sink : sink_now ≡ sink_before
  pub sink_low : sink_before < last_count
  pub none : NoneFailed asked seen after
  pub tree_low : seen.faults < last_count
  pub shelf_low : seen.outside.faults < last_count
  pub hands_low : (w : ℕ) → w < length (used asked seen.outside).hands → CanRise (hand_of (used asked seen.outside).hands w)

-- the answer comes from the words, from planning or from a run, all of its text is written, and its status is below 3
pub record IsAnswered (asked : Result CommandLine Outcome) (seen : Seen) (after : After) (trace : List Event) (answers : List Answered) (status : ℕ) (before now : Option (List ℕ)) : Type 0 where
  pub wanted : Outcome
  pub comes : Comes asked seen after trace answers wanted
  pub whole : IsWhole wanted status before now
  pub low : status < 3
