-- What a worker's hand is left as, by the endings of its modules. Project rule.
use Rattle.std.specs.Prelude.{◌≡◌, ℕ, Bool, true, List, Option, is_some}
use Rattle.std.specs.List.{list_all}
use Rattle.mvn_shared.specs.Cause.{HasCause, RoseBy}
use Rattle.mvn_shared.specs.Files.{Files}
use Rattle.goal_types.specs.declared.goal.GoalAnswer.{GoalAnswer}
use Rattle.goal_types.specs.declared.goal.GoalRequest.{GoalRequest}
use Rattle.mvn_outside.specs.Pieces.{Contents, Pieces}
use Rattle.mvn_outside.specs.declared.hand.Hand.{Hand}
use Rattle.build_core.specs.declared.ending.Device.TheVariants as device
use Rattle.build_core.specs.declared.ending.Ending.{Ending}
use Rattle.event_core.specs.Worlds.{HandTold}
use Rattle.crew_turns.specs.Endings.{faults_of, is_quiet_end, is_quiet_stop, stops_by}

-- which answers a gate gives to which requests
abbrev pub Test : Type 0
Test = GoalRequest → GoalAnswer → Bool

abbrev pub told_by : Option Files → (area : Bool) → Option Test → HandTold
told_by remote area gate = record { remote = remote; area = area; gate = gate }

-- what a hand tells, how often each of its devices failed so far, and the pieces of its staging area
pub record HandState : Type 0 where
  pub told : HandTold
  pub remote : ℕ
  pub area : ℕ
  pub gate : ℕ
  pub pieces : Pieces

-- by what its devices tell
abbrev pub state_by : {R A G : Type 0} → (R → Option Files) → (R → ℕ) → (A → Option Contents) → (A → ℕ) → (A → Pieces) → (G → Option Test) → (G → ℕ) → Hand R A G → HandState
state_by files remote_faults contents area_faults pieces answers gate_faults hand = record {
  told = told_by (files hand.remote) (is_some (contents hand.area)) (answers hand.gate);
  remote = remote_faults hand.remote;
  area = area_faults hand.area;
  gate = gate_faults hand.gate;
  pieces = pieces hand.area;
}

-- a device's count rose by at least as many as the modules that its faults ended, and not at all where there is none
pub record IsCounted (faults before now : ℕ) : Type 0 where
  pub rose : RoseBy faults before now
  pub still : faults ≡ 0 → now ≡ before

-- a hand was worked with, and modules ended so: it tells what it told; the count of each of its devices rose by their endings; and if none
-- ended by a fault or for want of memory, its area has the pieces that it had
pub record IsWorked (before now : HandState) (endings : List Ending) : Type 0 where
  pub told : now.told ≡ before.told
  pub remote : IsCounted (faults_of device.Remote endings) before.remote now.remote
  pub area : IsCounted (faults_of device.Area endings) before.area now.area
  pub gate : IsCounted (faults_of device.Gate endings) before.gate now.gate
  pub pieces : list_all is_quiet_end endings ≡ true → now.pieces ≡ before.pieces

-- ---- by one stage

-- a stage that may use the area: it tells as before, failed if the stage says so, and has the pieces that it had unless that stopped by a
-- fault or for want of memory
pub record IsAreaLeft {A : Type 0} (contents : A → Option Contents) (faults : A → ℕ) (pieces : A → Pieces) (before now : A) (stop : Option Ending) : Type 0 where
  pub tells : is_some (contents now) ≡ is_some (contents before)
  pub cause : HasCause (faults before) (faults now) (stops_by device.Area stop)
  pub same : is_quiet_stop stop ≡ true → pieces now ≡ pieces before

-- and the remote
pub record IsFetchedBy {R A : Type 0} (files : R → Option Files) (remote_faults : R → ℕ) (contents : A → Option Contents) (faults : A → ℕ) (pieces : A → Pieces) (before now : R) (area left : A) (stop : Option Ending) : Type 0 where
  pub told : files now ≡ files before
  pub cause : HasCause (remote_faults before) (remote_faults now) (stops_by device.Remote stop)
  pub area_left : IsAreaLeft contents faults pieces area left stop
