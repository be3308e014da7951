-- What finishes a build: what was published is settled, or the repository says why not, and the answer is made of it; and how areas are swept.
-- Project rules.
use Rattle.std.specs.Prelude.{◌≡◌, ◌<◌, ℕ, List, length, Option, Result, IfOk, OnOk}
use Rattle.std.specs.FinMap as map
use Rattle.mvn_shared.specs.Cause.{HasCause}
use Rattle.mvn_outside.specs.Faults.{device_failed}
use Rattle.mvn_outside.specs.Shelf.{MaySettle, settled_all}
use Rattle.mvn_outside.specs.declared.fault.DeviceFault.{DeviceFault}
use Rattle.mvn_outside.specs.declared.shelf.ShelfTold.{ShelfTold}
use Rattle.build_core.specs.declared.plan.Plan.{Plan}
use Rattle.report.specs.declared.details.Details.{Details}
use Rattle.board.specs.declared.board.Finished.{Finished}
use Rattle.crew_turns.specs.Hands.{HandState}
use Rattle.crew.specs.CrewOutcomes.{hand_of}
use Rattle.build_outcome.specs.Outcomes.{IsRunAnswer}
use Rattle.build_outcome.specs.declared.build.Call.{Call}

pub record Finishes {S : Type 0} (told : S → Option ShelfTold) (faults : S → ℕ) (plan : Plan) (details : List Details) (left : Finished S) (call : Call S) : Type 0 where
  pub settled : Result (Unit {0}) DeviceFault
  pub ok : OnOk settled (told call.devices ≡ settled_all (told left.shelf))
  pub may : MaySettle (told left.shelf) (told call.devices)
  pub cause : HasCause (faults left.shelf) (faults call.devices) (device_failed settled)
  pub answer : IfOk call.outcome (IsRunAnswer plan details left.answers left.states settled)
  pub events : call.trace ≡ left.trace
  pub kept : call.answers ≡ left.answers

-- a hand whose area is swept: its area is empty, and else it is as it was
abbrev pub swept : HandState → HandState
swept hand = record hand { pieces = map.empty }

-- all hands, or the first so many
abbrev pub AreSweptTo : (count : ℕ) → (before now : List HandState) → Type 0
AreSweptTo count before now = (w : ℕ) → w < count → hand_of now w ≡ swept (hand_of before w)

pub record AreSwept (before now : List HandState) : Type 0 where
  pub many : length now ≡ length before
  pub each : AreSweptTo (length before) before now
