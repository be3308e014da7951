-- What a build leaves of the repository, and of the hands' devices. Project rules.
use Rattle.std.specs.Prelude.{◌≡◌, ◌⊎◌, ◌<◌, ◌+◌, ℕ, List, [], length, map, Option, IfSome}
use Rattle.std.specs.FinMap as finite
use Rattle.mvn_shared.specs.Cause.{HasRisen, RoseBy}
use Rattle.mvn_outside.specs.Shelf.{MaySettle}
use Rattle.mvn_outside.specs.declared.shelf.ShelfTold.{ShelfTold}
use Rattle.build_core.specs.declared.event.Answered.{Answered}
use Rattle.build_core.specs.declared.event.Event.{Event}
use Rattle.build_core.specs.declared.plan.Plan.{Plan}
use Rattle.event_core.specs.Runs.{IsQuiet, answers_in, events_of}
use Rattle.event_core.specs.declared.entry.RunEntry.{RunEntry}
use Rattle.board.specs.Logs.{shelf_endings, told_after}
use Rattle.crew_turns.specs.Hands.{HandState}
use Rattle.crew.specs.CrewOutcomes.{IsCrewRun, hand_of, told_of}

-- what the repository tells and counts, and the hands
pub record Outside : Type 0 where
  pub shelf : Option ShelfTold
  pub faults : ℕ
  pub hands : List HandState

abbrev pub outside_by : {S H : Type 0} → (S → Option ShelfTold) → (S → ℕ) → (H → HandState) → S → List H → Outside
outside_by told faults state shelf hands = record { shelf = told shelf; faults = faults shelf; hands = map state hands }

-- each hand tells what it told
pub record TellAsBefore (before now : List HandState) : Type 0 where
  pub many : length now ≡ length before
  pub each : (w : ℕ) → w < length before → told_of now w ≡ told_of before w

-- no area has a piece
abbrev pub AreEmpty : List HandState → Type 0
AreEmpty hands = (w : ℕ) → w < length hands → (hand_of hands w).pieces ≡ finite.empty

-- ---- what was done

-- nothing: no event, no answer, and the repository as it was
abbrev pub IsIdle : (before now : Outside) → List Event → List Answered → Type 0
IsIdle before now trace answers = (trace ≡ []) × (answers ≡ []) × (now.shelf ≡ before.shelf)

-- a run by the crew: these are its events and its answers, and its publishes stand behind those that the repository told, of which some more
-- may be settled
pub record IsCallRun (plan : Plan) (before now : Outside) (trace : List Event) (answers : List Answered) (run : List RunEntry) : Type 0 where
  pub crew : IsCrewRun plan before.shelf before.hands now.hands run
  pub events : trace ≡ events_of run
  pub kept : answers ≡ answers_in plan run
  pub published : MaySettle (told_after plan run before.shelf) now.shelf

-- at every status, and for want of memory too
abbrev pub HasHistory : Plan → (before now : Outside) → List Event → List Answered → Type 0
HasHistory plan before now trace answers = IsIdle before now trace answers ⊎ ((run : List RunEntry) × IsCallRun plan before now trace answers run)

-- ---- which device failed

-- Of any repository, behind any run: its count rose by so many more at least; behind a quiet run it stands where there are no more. Where it
-- tells, the count rose by as many besides as modules of the run that its faults ended; of one that doesn't tell, such a fault may not be
-- counted: a file that was there is gone.
pub record IsShelfCounted (run : List RunEntry) (more : ℕ) (before now : Outside) : Type 0 where
  pub rose : IfSome before.shelf (λ told. RoseBy (shelf_endings run + more) before.faults now.faults)
  pub least : RoseBy more before.faults now.faults
  pub still : IsQuiet run → more ≡ 0 → now.faults ≡ before.faults

-- the area of a hand failed
abbrev pub AreaFailed : (before now : List HandState) → Type 0
AreaFailed before now = (w : ℕ) × (w < length before) × HasRisen (hand_of before w).area (hand_of now w).area

-- a device of a hand
abbrev pub HandFailed : (before now : List HandState) → Type 0
HandFailed before now = (w : ℕ) × (w < length before)
    × (HasRisen (hand_of before w).remote (hand_of now w).remote ⊎ (HasRisen (hand_of before w).area (hand_of now w).area ⊎ HasRisen (hand_of before w).gate (hand_of now w).gate))

-- or the repository, whose count says so where it tells
abbrev pub SomeFailed : (before now : Outside) → Type 0
SomeFailed before now = HandFailed before.hands now.hands ⊎ IfSome before.shelf (λ told. HasRisen before.faults now.faults)

-- no device failed
pub record IsStill (before now : HandState) : Type 0 where
  pub remote : now.remote ≡ before.remote
  pub area : now.area ≡ before.area
  pub gate : now.gate ≡ before.gate

pub record AllStill (before now : Outside) : Type 0 where
  pub shelf : now.faults ≡ before.faults
  pub hands : (w : ℕ) → w < length before.hands → IsStill (hand_of before.hands w) (hand_of now.hands w)
