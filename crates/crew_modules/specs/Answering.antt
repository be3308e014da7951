-- Where a worker stands while its module's goals are asked, one after another. Introduction to the Build Lifecycle.
use Rattle.std.specs.Prelude.{◌≡◌, ◌⊎◌, ℕ, Bool, true, List, [], length, Option, None, Some, Result, Ok, Err}
use Rattle.mvn_shared.specs.Files.{Files}
use Rattle.goal_types.specs.declared.goal.GoalRequest.{GoalRequest}
use Rattle.goal_types.specs.declared.goal.OwnBytes.{OwnBytes}
use Rattle.goal_types.specs.declared.goal.PathEntry.{PathEntry}
use Rattle.build_core.specs.Slots.{kept_of}
use Rattle.build_core.specs.declared.ending.Device.TheVariants as device
use Rattle.build_core.specs.declared.ending.Ending.{Ending}
use Rattle.build_core.specs.declared.ending.Ending.TheVariants as ending
use Rattle.atomic_table.specs.Seated.{TableId}
use Rattle.crew_turns.specs.Seen.{Follows, IsOf, KeepsFit, Told, names_by}
use Rattle.crew_turns.specs.Tasks.{ModuleTask, stood_by}
use Rattle.crew_turns.specs.Asked.{IsRequest}
use Rattle.crew_turns.specs.Endings.{is_goal_end}
use Rattle.crew_turns.specs.Hands.{Test, told_by}
use Rattle.crew_turns.specs.Paths.{IsPath}
use Rattle.crew_turns.specs.Stages.{HasAnswered}
use Rattle.crew_turns.specs.Stops.{MayStopAlways}

-- so many goals are answered, all well; the classpath is gathered, and the next request has the outputs that are kept
pub record IsAnswering (t : ModuleTask) (lock : TableId) (paths : List PathEntry) (goal : ℕ) (request : GoalRequest) (pass : Told) : Type 0 where
  pub of : IsOf t.plan lock t.worker pass
  pub last : Option ℕ
  pub good : HasAnswered t goal last pass
  pub path : IsPath t paths pass
  pub asks : IsRequest t request pass

-- a goal stopped the module: it holds no name, and may end so, whatever its hand tells
pub record HasStopped (t : ModuleTask) (lock : TableId) (e : Ending) (pass : Told) : Type 0 where
  pub of : IsOf t.plan lock t.worker pass
  pub held : names_by t.plan t.worker pass ≡ []
  pub may : MayStopAlways t e pass
  pub by_goal : is_goal_end e ≡ true

-- by whether a goal stopped it
abbrev pub IsLeft : ModuleTask → TableId → List PathEntry → (goal : ℕ) → GoalRequest → Option Ending → Told → Type 0
IsLeft t lock paths goal request None pass = IsAnswering t lock paths goal request pass
IsLeft t lock paths goal request (Some e) pass = HasStopped t lock e pass

-- all goals are answered, all well, and these outputs are kept
pub record HasAllAnswered (t : ModuleTask) (lock : TableId) (own : List OwnBytes) (pass : Told) : Type 0 where
  pub of : IsOf t.plan lock t.worker pass
  pub last : Option ℕ
  pub good : HasAnswered t (length t.unit.goals) last pass
  pub kept : own ≡ kept_of (stood_by t pass).goals

-- by what the goals gave
abbrev pub IsDone : ModuleTask → TableId → Result (List OwnBytes) Ending → Told → Type 0
IsDone t lock (Ok own) pass = HasAllAnswered t lock own pass
IsDone t lock (Err e) pass = HasStopped t lock e pass

-- on the way the log grew, and what fitted a hand with this gate fits it
pub record Goes (t : ModuleTask) (gate : Option Test) (before pass : Told) : Type 0 where
  pub follows : Follows before pass
  pub fits : (remote : Option Files) (area : Bool) → KeepsFit t.plan t.worker (told_by remote area gate) before pass

-- no answer came: the gate failed, or memory ran out
abbrev pub IsGateEnd : Ending → Type 0
IsGateEnd e = (e ≡ ending.Fault device.Gate) ⊎ (e ≡ ending.Memory)
