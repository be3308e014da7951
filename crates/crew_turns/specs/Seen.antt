-- What a worker knows of a build by its pass. Project rule.
use Rattle.std.specs.Prelude.{◌≡◌, ℕ, Bool, List, ◌∷◌, [], ◌++◌, Option, None, Some, option_map, option_and_then}
use Rattle.mvn_shared.specs.Files.{Files}
use Rattle.mvn_outside.specs.Shelf.{files_now}
use Rattle.build_core.specs.declared.event.Event.{Event}
use Rattle.build_core.specs.declared.plan.Plan.{Plan}
use Rattle.event_core.specs.Runs.{IsRunOf, module_by, standing_of_run}
use Rattle.event_core.specs.SoundPlans.{IsSoundPlan}
use Rattle.event_core.specs.Standing.{Course, course_of, held_by}
use Rattle.event_core.specs.Worlds.{HandTold}
use Rattle.event_core.specs.declared.entry.Carried.{Carried}
use Rattle.event_core.specs.declared.entry.RunEntry.{RunEntry}
use Rattle.atomic_table.specs.Seated.{TableId}
use Rattle.turn_lock.specs.Passes.{lock_of, view_of}
use Rattle.turn_lock.specs.Turns.{Begins}
use Rattle.turn_lock.specs.declared.view.View.{View}
use Rattle.board.specs.declared.kept.Opened.{Opened}
use Rattle.run_law.specs.Hands.{OwnFit}
use Rattle.run_law.specs.Others.{AreOthers}

-- a pass over a board, as contracts see it
abbrev pub Told : Type 0
Told = TableId × ℕ × View Opened RunEntry

abbrev pub view : Told → View Opened RunEntry
view pass = view_of {W = View Opened RunEntry} pass

-- the log that it has seen
abbrev pub seen_by : Told → List RunEntry
seen_by pass = (view pass).seen

-- the repository's files when the build began, where it told them
abbrev pub start_by : Told → Option Files
start_by pass = option_and_then (λ (o : Opened). option_map files_now o.told) (view pass).fixed

-- what a worker is at, the names that it holds, and which files are there, in that log
abbrev pub course_by : Plan → ℕ → Told → Course
course_by plan worker pass = course_of (standing_of_run plan (seen_by pass)) worker

abbrev pub names_by : Plan → ℕ → Told → List ℕ
names_by plan worker pass = held_by (standing_of_run plan (seen_by pass)) worker

abbrev pub there_by : Plan → Told → List Bool
there_by plan pass = (standing_of_run plan (seen_by pass)).there

-- it is this worker's pass of a build of this plan, and has no turn out; what it has seen is a run, and it owes the module that its worker builds there
pub record IsOf (plan : Plan) (lock : TableId) (worker : ℕ) (pass : Told) : Type 0 where
  pub own : lock_of pass ≡ lock
  pub quiet : (view pass).turn ≡ None
  pub whose : (view pass).number ≡ worker
  pub among : (view pass).workers ≡ plan.workers
  pub opened : Opened
  pub fixed : (view pass).fixed ≡ Some opened
  pub over : opened.plan ≡ plan
  pub sound : IsSoundPlan plan
  pub run : IsRunOf plan (seen_by pass)
  pub owes : (view pass).owed ≡ module_by plan (seen_by pass) worker

-- later it is still that pass, and its log begins with what it had seen
pub record Follows (before pass : Told) : Type 0 where
  pub lock : lock_of pass ≡ lock_of before
  pub quiet : (view pass).turn ≡ None
  pub number : (view pass).number ≡ (view before).number
  pub reach : (view pass).reach ≡ (view before).reach
  pub weight : (view pass).weight ≡ (view before).weight
  pub workers : (view pass).workers ≡ (view before).workers
  pub fixed : (view pass).fixed ≡ (view before).fixed
  pub log : Begins (seen_by before) (seen_by pass)

-- ---- a turn

-- others' entries came, and none of the worker's
pub record Sees (plan : Plan) (lock : TableId) (worker : ℕ) (before pass : Told) : Type 0 where
  pub of : IsOf plan lock worker pass
  pub follows : Follows before pass
  pub others : List RunEntry
  pub apart : AreOthers worker others
  pub log : seen_by pass ≡ seen_by before ++ others

-- others' entries came, and then this one of the worker's
pub record Steps (plan : Plan) (lock : TableId) (worker : ℕ) (e : Event) (before pass : Told) : Type 0 where
  pub of : IsOf plan lock worker pass
  pub follows : Follows before pass
  pub others : List RunEntry
  pub apart : AreOthers worker others
  pub what : Carried
  pub log : seen_by pass ≡ seen_by before ++ others ++ (record { event = e; carried = what }) ∷ []

-- ---- what the worker's entries fit

-- each entry of the worker in the log fits what its hand tells
abbrev pub FitsHand : Plan → ℕ → HandTold → Told → Type 0
FitsHand plan worker told pass = OwnFit plan (start_by pass) told worker [] (seen_by pass)

abbrev pub KeepsFit : Plan → ℕ → HandTold → (before pass : Told) → Type 0
KeepsFit plan worker told before pass = FitsHand plan worker told before → FitsHand plan worker told pass

-- whatever the hand tells
abbrev pub AlwaysFits : Plan → ℕ → (before pass : Told) → Type 0
AlwaysFits plan worker before pass = (told : HandTold) → KeepsFit plan worker told before pass
