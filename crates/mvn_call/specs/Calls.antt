-- What a call answers before it is written, and what it leaves, as one record. Project rules.
use Rattle.std.specs.Prelude.{◌≡◌, ◌<◌, ◌≤◌, List, Result, IfOk, IfSome}
use Rattle.mvn_shared.specs.declared.memory.OutOfMemory.{OutOfMemory}
use Rattle.mvn_outside.specs.Shelf.{IsSettled}
use Rattle.build_core.specs.declared.event.Answered.{Answered}
use Rattle.build_core.specs.declared.event.Event.{Event}
use Rattle.cli_words.specs.declared.command_line.CommandLine.{CommandLine}
use Rattle.build_outcome.specs.Left.{AreEmpty, TellAsBefore}
use Rattle.build_outcome.specs.Once.{PublishesOnce}
use Rattle.build_outcome.specs.declared.outcome.Outcome.{Outcome}
use Rattle.call_plan.specs.Headline.{Comes, IsHistory, IsOutcome, IsUnchanged, NoneFailed, OneFailed}
use Rattle.call_plan.specs.Seen.{After, IfAllTell, LeavesSo, Seen, used}

pub record Calls (asked : Result CommandLine Outcome) (seen : Seen) (after : After) (trace : List Event) (answers : List Answered) (said : Result Outcome OutOfMemory) : Type 0 where
  pub outcome : IfAllTell asked seen (λ files told there. IfOk said (λ answer. answer.status < 3 →
      LeavesSo told after.outside.shelf (IsOutcome asked files there seen.machine answers answer)))
  pub bound : IfOk said (λ answer. answer.status ≤ 3)
  pub comes : IfOk said (Comes asked seen after trace answers)
  pub history : IsHistory asked seen after trace answers
  pub refused : IfOk said (λ answer. answer.status ≡ 2 → IsUnchanged seen after trace answers)
  pub once : PublishesOnce seen.outside.shelf after.outside.shelf
  pub settled : IfOk said (λ answer. answer.status < 2 → IfSome after.outside.shelf IsSettled)
  pub areas : IfOk said (λ answer. answer.status < 2 → AreEmpty (used asked after.outside).hands)
  pub quiet : IfOk said (λ answer. answer.status < 3 → NoneFailed asked seen after)
  pub fault : IfOk said (λ answer. answer.status ≡ 3 → OneFailed asked seen after)
  pub tells : TellAsBefore seen.outside.hands after.outside.hands
