-- A build of a plan over objects in memory, and its summary. Project rule.
use Rattle.std.specs.Prelude.{◌≡◌, ℕ, false, List, length, Some, Result, IfOk}
use Rattle.std.specs.FinMap as finite
use Rattle.mvn_shared.specs.declared.memory.OutOfMemory.{OutOfMemory}
use Rattle.mvn_outside.specs.Shelf.{files_now}
use Rattle.mvn_outside.specs.declared.shelf.ShelfTold.{ShelfTold}
use Rattle.build_core.specs.declared.event.Answered.{Answered}
use Rattle.build_core.specs.declared.event.Event.{Event}
use Rattle.crew_turns.specs.Hands.{HandState}
use Rattle.build_outcome.specs.Left.{Outside}
use Rattle.build_outcome.specs.Reports.{Reports}
use Rattle.build_outcome.specs.declared.outcome.Outcome.{Outcome}
use Rattle.crew.specs.CrewOutcomes.{hand_of}
use Rattle.module_plan.specs.declared.selected.Planned.{Planned}
use Rattle.call_plan.specs.Headline.{told_of}
use Rattle.call_plan.specs.Seen.{with_first}
use Rattle.generated.specs.Summary.{IsSummedUp}

-- no device of a hand has failed, and none at all
pub record IsFaultless (hand : HandState) : Type 0 where
  pub remote : hand.remote ≡ 0
  pub area : hand.area ≡ 0
  pub gate : hand.gate ≡ 0

pub record HasNoFaults (outside : Outside) : Type 0 where
  pub shelf : outside.faults ≡ 0
  pub hands : (w : ℕ) → IsFaultless (hand_of outside.hands w)

-- a plan was built by the first hands, no device failed, and what is answered sums the report up
pub record SumsUp (poms : ℕ) (p : Planned) (before : Outside) (trace : List Event) (answers : List Answered) (said : Result Outcome OutOfMemory) : Type 0 where
  pub report : Result Outcome OutOfMemory
  pub after : Outside
  pub told : ShelfTold
  pub tells : after.shelf ≡ Some told
  pub faultless : HasNoFaults after
  pub reports : Reports p.plan (told_of false p) (with_first p.plan.workers before) (with_first p.plan.workers after) trace answers report
  pub summed : IfOk said (IsSummedUp poms p (length (finite.keys (files_now told))) report)
