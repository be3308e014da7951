-- How a worker may stop within a module. Project rule.
use Rattle.std.specs.Prelude.{◌≡◌, ℕ, Bool, true, List, [], ◌∷◌, ◌++◌, Option, Some, None}
use Rattle.build_core.specs.declared.ending.Ending.{Ending}
use Rattle.event_core.specs.Enabled.{ending_in_range, may_end_so}
use Rattle.event_core.specs.Runs.{module_by}
use Rattle.event_core.specs.Standing.{Course, after_free}
use Rattle.event_core.specs.Worlds.{FitsEnd, HandTold}
use Rattle.scripts.specs.declared.outline.Outline.{Outline}
use Rattle.atomic_table.specs.Seated.{TableId}
use Rattle.crew_turns.specs.Seen.{Follows, IsOf, Told, course_by, names_by, seen_by}
use Rattle.crew_turns.specs.Tasks.{ModuleTask, plan_outline, stood_by}
use Rattle.crew_turns.specs.Endings.{endings_of}

-- what a worker is at when it has freed the names that it held: as its script says where frees were due, and else off its script
abbrev pub freed_course : Outline → (there : List Bool) → (names : List ℕ) → Course → Course
freed_course o there [] course = course
freed_course o there (n ∷ names) course = after_free o there [] course

-- when it has freed its names the module may end so
pub record MayEnd (t : ModuleTask) (e : Ending) (pass : Told) : Type 0 where
  pub whose : module_by t.plan (seen_by pass) t.worker ≡ Some t.number
  pub ends : (there : List Bool) → may_end_so (plan_outline t) (freed_course (plan_outline t) there (names_by t.plan t.worker pass) (course_by t.plan t.worker pass)) e ≡ true
  pub range : ending_in_range (plan_outline t) (course_by t.plan t.worker pass) e ≡ true

-- and the ending fits what its hand tells
pub record MayStop (t : ModuleTask) (told : HandTold) (e : Ending) (pass : Told) : Type 0 where
  pub may : MayEnd t e pass
  pub fits : FitsEnd (stood_by t pass) told e

-- whatever its hand tells
abbrev pub MayStopAlways : ModuleTask → Ending → Told → Type 0
MayStopAlways t e pass = (told : HandTold) → MayStop t told e pass

-- the worker's module has ended so, and it builds none
pub record HasEnded (t : ModuleTask) (lock : TableId) (e : Ending) (before pass : Told) : Type 0 where
  pub of : IsOf t.plan lock t.worker pass
  pub follows : Follows before pass
  pub ended : endings_of t.worker (seen_by pass) ≡ endings_of t.worker (seen_by before) ++ e ∷ []
  pub idle : module_by t.plan (seen_by pass) t.worker ≡ None
