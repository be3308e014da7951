-- What one turn of a worker leaves, by its answer. Project rule.
use Rattle.std.specs.Prelude.{◌≡◌, ℕ, ◌<◌, Bool, true, List, [], length, Option, None}
use Rattle.build_core.specs.declared.mode.Mode.{Mode}
use Rattle.build_core.specs.declared.table.Tried.{Tried}
use Rattle.build_core.specs.declared.table.Tried.TheVariants.{Taken, Busy}
use Rattle.build_core.specs.declared.event.Event.TheVariants as event
use Rattle.build_core.specs.declared.plan.Plan.{Plan}
use Rattle.scripts.specs.Outlines.{outline_of}
use Rattle.event_core.specs.Runs.{IsComplete}
use Rattle.scripts.specs.Scripts.{settled}
use Rattle.event_core.specs.Standing.{on_course, start_of}
use Rattle.atomic_table.specs.Seated.{TableId}
use Rattle.board.specs.declared.next.Next.{Next}
use Rattle.board.specs.declared.next.Next.TheVariants as next
use Rattle.crew_turns.specs.Seen.{Sees, Steps, Told, course_by, names_by, seen_by, there_by}
use Rattle.crew_turns.specs.Tasks.{HasBegun, ModuleTask}
use Rattle.crew_turns.specs.declared.turns.Assigned.{Assigned}
use Rattle.crew_turns.specs.declared.turns.Assigned.TheVariants as assigned
use Rattle.crew_turns.specs.declared.turns.Reached.{Reached}
use Rattle.crew_turns.specs.declared.turns.Reached.TheVariants as reached
use Rattle.run_law.specs.Absent.{IsFirstAbsent}

-- a worker began the module of this task
pub record HasStarted (plan : Plan) (lock : TableId) (worker : ℕ) (t : ModuleTask) (before pass : Told) : Type 0 where
  pub plan_is : t.plan ≡ plan
  pub worker_is : t.worker ≡ worker
  pub step : Steps plan lock worker (event.Start worker t.number) before pass
  pub begun : HasBegun t pass

-- all modules have ended
pub record IsFinished (plan : Plan) (lock : TableId) (worker : ℕ) (before pass : Told) : Type 0 where
  pub turn : Sees plan lock worker before pass
  pub complete : IsComplete plan (seen_by pass)

-- by what it was told: a module that was skipped is nobody's entry
abbrev pub IsAssigned : Plan → TableId → (worker : ℕ) → Assigned → (before pass : Told) → Type 0
IsAssigned plan lock worker (assigned.Task t) before pass = HasStarted plan lock worker t before pass
IsAssigned plan lock worker assigned.Skipped before pass = Sees plan lock worker before pass
IsAssigned plan lock worker assigned.Wait before pass = Sees plan lock worker before pass
IsAssigned plan lock worker assigned.Done before pass = IsFinished plan lock worker before pass

-- ---- by what the board said

-- a worker began a module of the plan
pub record IsBegun (plan : Plan) (lock : TableId) (worker number : ℕ) (before pass : Told) : Type 0 where
  pub low : number < length plan.modules
  pub step : Steps plan lock worker (event.Start worker number) before pass
  pub course : course_by plan worker pass ≡ on_course number (settled (there_by plan pass) true (start_of (outline_of plan) number)) None
  pub held : names_by plan worker pass ≡ []

abbrev pub IsTold : Plan → TableId → (worker : ℕ) → Next → (before pass : Told) → Type 0
IsTold plan lock worker (next.Module number) before pass = IsBegun plan lock worker number before pass
IsTold plan lock worker (next.Skipped number) before pass = Sees plan lock worker before pass
IsTold plan lock worker next.Wait before pass = Sees plan lock worker before pass
IsTold plan lock worker next.Done before pass = IsFinished plan lock worker before pass

-- the module that the board named is one of the plan's
abbrev pub IsIn : Plan → Next → Type 0
IsIn plan (next.Module number) = number < length plan.modules
IsIn plan other = Unit {0}

-- ---- a name is taken

-- a name was taken, with the first absent file of the fetch list from a place on, or another's hold kept it from the worker
abbrev pub IsReached : ModuleTask → TableId → (name : ℕ) → Mode → (from : ℕ) → Reached → (before pass : Told) → Type 0
IsReached t lock name mode from reached.Busy before pass = Sees t.plan lock t.worker before pass
IsReached t lock name mode from (reached.Taken found) before pass = Steps t.plan lock t.worker (event.Take t.worker name mode) before pass × IsFirstAbsent (there_by t.plan pass) t.unit.fetch from found

-- by what the board said, and the look behind it
abbrev pub Looks : (there : List Bool) → List ℕ → (from : ℕ) → Tried → Reached → Type 0
Looks there files from Taken r = (found : Option ℕ) × (r ≡ reached.Taken found) × IsFirstAbsent there files from found
Looks there files from (Busy h) r = r ≡ reached.Busy
