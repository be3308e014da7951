-- What a build on many workers is given, what its runs are to meet, and what stands behind them. Project rule.
use Rattle.std.specs.Prelude.{◌≡◌, ℕ, ◌<◌, ◌⊎◌, Bool, true, false, ◌&&◌, ◌==◌, List, [], length, map, find, nat_le, slice_get, Option, Some, is_some}
use Rattle.std.specs.List.{slice_index_or}
use Rattle.build_core.specs.Locks.{below}
use Rattle.mvn_shared.specs.Files.{Files, file_at}
use Rattle.build_core.specs.declared.event.Answered.{Answered}
use Rattle.build_core.specs.declared.ending.Ending.{Ending}
use Rattle.build_core.specs.declared.ending.Ending.TheVariants as ending
use Rattle.goal_types.specs.declared.goal.GoalAnswer.{GoalAnswer}
use Rattle.goal_types.specs.declared.goal.OwnBytes.{OwnBytes}
use Rattle.build_core.specs.declared.plan.Plan.{Plan}
use Rattle.build_core.specs.declared.plan.PlanModule.{PlanModule}
use Rattle.event_core.specs.declared.entry.RunEntry.{RunEntry}
use Rattle.build_core.specs.declared.ending.State.{State}
use Rattle.build_core.specs.declared.ending.State.TheVariants as state
use Rattle.build_core.specs.OneThread.{Progress, Supply, name_of, one_thread}
use Rattle.scripts.specs.Outlines.{is_listed, outline_of}
use Rattle.event_core.specs.Runs.{IsComplete, IsQuiet, IsRunOf, outputs_in, standing_of_run}
use Rattle.scripts.specs.Scripts.{is_there}
use Rattle.event_core.specs.SoundPlans.{IsSoundPlan}
use Rattle.event_core.specs.HowFar.{state_of, upstream_of}
use Rattle.event_core.specs.Worlds.{AllFit, HandTold}

-- the answers to all goals, by module and goal
abbrev pub Answers : Type 0
Answers = ℕ → ℕ → GoalAnswer

-- a plan, the repository's files at the start, the remote's, and what the hand of each worker tells
pub record Given : Type 0 where
  pub plan : Plan
  pub start : Files
  pub remote : Files
  pub hands : ℕ → HandTold

-- `present` says which of the plan's files the repository has
abbrev pub IsPresent : Plan → Files → Type 0
IsPresent plan start = (f : ℕ) → f < length plan.files → is_there plan.present f ≡ is_some (file_at start (name_of plan f))

-- the area of each worker tells what it stages, and its remote these files
abbrev pub AllTell : Given → Type 0
AllTell g = (w : ℕ) → w < g.plan.workers → ((g.hands w).area ≡ true) × ((g.hands w).remote ≡ Some g.remote)

-- a run over a sound plan in which each event could follow those before it, and each entry fits
pub record IsFitting (g : Given) (run : List RunEntry) : Type 0 where
  pub sound : IsSoundPlan g.plan
  pub present : IsPresent g.plan g.start
  pub tell : AllTell g
  pub follows : IsRunOf g.plan run
  pub fits : AllFit g.plan (Some g.start) g.hands [] run

-- and one in which each module has ended or was skipped, and none ended by a fault or for want of memory
pub record IsWhole (g : Given) (run : List RunEntry) : Type 0 where
  pub fitting : IsFitting g run
  pub complete : IsComplete g.plan run
  pub quiet : IsQuiet run

-- the answers are those that are kept, of each goal of which one is
abbrev pub is_answer : (number goal : ℕ) → Answered → Bool
is_answer number goal a = (a.«module» == number) && (a.goal == goal)

abbrev pub Extends : List Answered → Answers → Type 0
Extends kept said = (number goal : ℕ) (a : Answered) → find (is_answer number goal) kept ≡ Some a → said number goal ≡ a.answer

-- ---- what stands behind a run, and behind the sequential build with these answers

abbrev pub state_after : Plan → List RunEntry → ℕ → State
state_after plan run number = state_of (outline_of plan) (standing_of_run plan run).progress number

abbrev pub states_after : Plan → List RunEntry → List State
states_after plan run = map (state_after plan run) (below (length plan.modules))

abbrev pub outputs_after : Plan → List RunEntry → ℕ → List OwnBytes
outputs_after plan run number = slice_index_or (outputs_in plan run) number []

abbrev pub supply_by : (start remote : Files) → Answers → Supply
supply_by start remote said = record { start = start; remote = remote; answers = said }

abbrev pub sequential : Given → Answers → Progress
sequential g said = one_thread g.plan (supply_by g.start g.remote said)

-- ---- goals

-- the goals that the sequential build comes to in a module that ends so
abbrev pub reaches : Ending → ℕ → Bool
reaches ending.Built goal = true
reaches ending.NoArtifact goal = true
reaches (ending.Goal i) goal = nat_le goal i
reaches (ending.OutputTooLarge i) goal = nat_le goal i
reaches other goal = false

-- the answer to a goal is kept
abbrev pub is_kept : List Answered → ℕ → ℕ → Bool
is_kept kept number goal = is_some (find (is_answer number goal) kept)

-- ---- locks and files

-- some module fetches the file
abbrev pub IsFetched : Plan → (file : ℕ) → Type 0
IsFetched plan file = (number : ℕ) × (m : PlanModule) × (slice_get plan.modules number ≡ Some m) × (is_listed file m.fetch ≡ true)

-- a name stands in the batch of each module that fetches a file
abbrev pub IsCover : Plan → (name file : ℕ) → Type 0
IsCover plan name file = (number : ℕ) (m : PlanModule) → slice_get plan.modules number ≡ Some m → is_listed file m.fetch ≡ true → is_listed name m.batch ≡ true

-- ---- modules that faults didn't touch

abbrev pub is_fault : State → Bool
is_fault (state.Ended (ending.Fault device)) = true
is_fault (state.Ended ending.Memory) = true
is_fault other = false

-- a module that didn't end by a fault or for want of memory, and no upstream of it did, however far up
pub data IsUntouched (plan : Plan) (run : List RunEntry) : ℕ → Type 0 where
  untouched : (number : ℕ) → is_fault (state_after plan run number) ≡ false
      → ((u : ℕ) → is_listed u (upstream_of (outline_of plan) number) ≡ true → IsUntouched plan run u) → IsUntouched plan run number

-- ---- files between others

-- what a name may hold between two maps: what one of them gives it
abbrev pub MayStand : (low high : Files) → List ℕ → Option (List ℕ) → Type 0
MayStand low high name value = (value ≡ file_at low name) ⊎ (value ≡ file_at high name)

abbrev pub IsBetween : (low high files : Files) → Type 0
IsBetween low high files = (name : List ℕ) → MayStand low high name (file_at files name)
