-- All that is known of a build: what it answers, and what it leaves. Project rules.
use Rattle.std.specs.Prelude.{◌≡◌, ◌≢◌, ◌<◌, ◌≤◌, ℕ, List, Result, IfOk, IfSome}
use Rattle.mvn_shared.specs.declared.memory.OutOfMemory.{OutOfMemory}
use Rattle.mvn_outside.specs.Shelf.{IsSettled}
use Rattle.build_core.specs.declared.event.Answered.{Answered}
use Rattle.build_core.specs.declared.event.Event.{Event}
use Rattle.build_core.specs.declared.plan.Plan.{Plan}
use Rattle.report.specs.declared.details.Details.{Details}
use Rattle.build_outcome.specs.Answering.{AnswersBuild, BuildsAsOne}
use Rattle.build_outcome.specs.Left.{AllStill, AreEmpty, HasHistory, Outside, SomeFailed, TellAsBefore}
use Rattle.build_outcome.specs.Once.{PublishesOnce}
use Rattle.build_outcome.specs.declared.outcome.Outcome.{Outcome}

-- Below 3 the answer and the files are those of the build by one hand, all is settled, no area has a piece left, and no device failed; at 3
-- one did; it is never 2 or more than 3. At every status the answer is of a run of the plan by the crew, with its causes and with its events
-- as the trace, or nothing was done; the hands tell what they told; and each name is published at most once.
pub record Reports (plan : Plan) (details : List Details) (before now : Outside) (trace : List Event) (answers : List Answered) (outcome : Result Outcome OutOfMemory) : Type 0 where
  pub as_one : IfOk outcome (λ answer. answer.status < 3 → BuildsAsOne plan details before now answers answer)
  pub settled : IfOk outcome (λ answer. answer.status < 3 → IfSome now.shelf IsSettled)
  pub areas : IfOk outcome (λ answer. answer.status < 3 → AreEmpty now.hands)
  pub quiet : IfOk outcome (λ answer. answer.status < 3 → AllStill before now)
  pub fault : IfOk outcome (λ answer. answer.status ≡ 3 → SomeFailed before now)
  pub bound : IfOk outcome (λ answer. (answer.status ≤ 3) × (answer.status ≢ 2))
  pub comes : IfOk outcome (AnswersBuild plan details before now trace answers)
  pub history : HasHistory plan before now trace answers
  pub tells : TellAsBefore before.hands now.hands
  pub once : PublishesOnce before.shelf now.shelf
