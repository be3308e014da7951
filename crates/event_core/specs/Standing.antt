-- Where a build stands after some events. Own.
use Rattle.std.specs.Prelude.{◌≡◌, ℕ, Bool, true, ◌&&◌, List, [], ◌∷◌, ◌++◌, length, fold, replicate, slice_get, slice_set, Option, Some, None}
use Rattle.std.specs.List.{list_all, slice_index_or}
use Rattle.std.specs.Option.{option_map_or}
use Rattle.build_core.specs.declared.mode.Mode.{Mode}
use Rattle.build_core.specs.Locks.{Holds, none_held, with_hold}
use Rattle.build_core.specs.declared.ending.Ending.{Ending}
use Rattle.event_core.specs.declared.module_steps.Progress.{Progress}
use Rattle.event_core.specs.declared.module_steps.Progress.TheVariants.{Waiting, Running, Skipped, Ended}
use Rattle.build_core.specs.declared.event.Event.{Event}
use Rattle.build_core.specs.declared.event.Event.TheVariants as event
use Rattle.scripts.specs.declared.deed.Deed.{Deed}
use Rattle.scripts.specs.declared.deed.Deed.TheVariants as deed
use Rattle.scripts.specs.declared.outline.Outline.{Outline}
use Rattle.scripts.specs.declared.outline.ModuleOutline.{ModuleOutline}
use Rattle.event_core.specs.HowFar.{is_over}
use Rattle.scripts.specs.Climbing.{but}
use Rattle.scripts.specs.Outlines.{is_empty}
use Rattle.scripts.specs.Scripts.{Script, done, is_gathered, script_of, settled, wanted, whole}

-- what a worker is at: nothing; a module, with what is left of its script and the goal that was answered last; or a module whose script
-- it left, with the file that was wanted then, and whether all files were there and no goal was answered
pub data Course : Type 0 where
  idle : Course
  on_course : ℕ → Script → Option ℕ → Course
  off_course : ℕ → Option ℕ → Bool → Course

-- how far each module is, what each worker is at, the names that each worker holds, as it took them, how they are held, and which files
-- are there
pub record Standing : Type 0 where
  pub progress : List Progress
  pub courses : List Course
  pub held : List (List ℕ)
  pub locks : Holds
  pub there : List Bool

abbrev pub course_of : Standing → ℕ → Course
course_of now w = slice_index_or now.courses w idle

abbrev pub held_by : Standing → ℕ → List ℕ
held_by now w = slice_index_or now.held w []

abbrev pub start_of : Outline → ℕ → Script
start_of o m = option_map_or script_of (slice_get o.modules m) whole

abbrev pub goals_of : Outline → ℕ → ℕ
goals_of o m = option_map_or (λ (x : ModuleOutline). x.goals) (slice_get o.modules m) 0

-- where nothing has happened
abbrev pub at_first : Outline → Standing
at_first o = record {
  progress = replicate (length o.modules) Waiting;
  courses = replicate o.workers idle;
  held = replicate o.workers [];
  locks = none_held o.names o.workers;
  there = o.present;
}

-- ---- an event more

-- a course behind a deed of these names held
abbrev pub after_deed : List Bool → List ℕ → Deed → Option ℕ → Course → Course
after_deed there held d answered (on_course m script last) = option_map_or (λ rest. on_course m (settled there (is_empty held) rest) answered) (done script d) (on_course m script last)
after_deed there held d answered other = other

-- and behind a free: one that isn't due leaves the script
abbrev pub after_free : Outline → List Bool → List ℕ → Course → Course
after_free o there held (on_course m script last) = option_map_or (λ rest. on_course m (settled there (is_empty held) rest) None) (done script deed.Free) (off_course m (wanted script) (is_gathered (goals_of o m) script))
after_free o there held other = other

abbrev pub module_of : Course → Option ℕ
module_of idle = None
module_of (on_course m script last) = Some m
module_of (off_course m file gathered) = Some m

abbrev pub ended : Option ℕ → Ending → List Progress → List Progress
ended None e progress = progress
ended (Some m) e progress = slice_set progress m (Ended e)

-- where a worker is at something else
abbrev pub turned_to : Standing → ℕ → Course → Standing
turned_to now w course = record now { courses = slice_set now.courses w course }

-- a worker behind a deed, and behind a free
abbrev pub deed_done : Standing → ℕ → Deed → Option ℕ → Standing
deed_done now w d answered = turned_to now w (after_deed now.there (held_by now w) d answered (course_of now w))

abbrev pub free_done : Outline → Standing → ℕ → Standing
free_done o now w = turned_to now w (after_free o now.there (held_by now w) (course_of now w))

abbrev pub after_start : Outline → Standing → ℕ → ℕ → Standing
after_start o now w m = turned_to (record now { progress = slice_set now.progress m (Running w) }) w (on_course m (settled now.there (is_empty (held_by now w)) (start_of o m)) None)

abbrev pub after_skip : Standing → ℕ → Standing
after_skip now m = record now { progress = slice_set now.progress m Skipped }

-- a name is held, or no longer, and with that the deed is done
abbrev pub after_take : Standing → ℕ → ℕ → Mode → Standing
after_take now w n mode = deed_done (record now { held = slice_set now.held w (held_by now w ++ n ∷ []); locks = with_hold now.locks n w (Some mode) }) w (deed.Take mode n) None

abbrev pub after_freed : Outline → Standing → ℕ → ℕ → Standing
after_freed o now w n = free_done o (record now { held = slice_set now.held w (but n (held_by now w)); locks = with_hold now.locks n w None }) w

abbrev pub after_publish : Standing → ℕ → ℕ → Standing
after_publish now w f = deed_done (record now { there = slice_set now.there f true }) w (deed.Publish f) None

-- a worker's module has ended
abbrev pub closed : Standing → ℕ → Ending → Standing
closed now w e = record now { progress = ended (module_of (course_of now w)) e now.progress }

abbrev pub after_end : Standing → ℕ → Ending → Standing
after_end now w e = turned_to (closed now w e) w idle

unfoldable pub after : Outline → Standing → Event → Standing
after o now (event.Start w m) = after_start o now w m
after o now (event.Skip m) = after_skip now m
after o now (event.Take w n mode) = after_take now w n mode
after o now (event.Free w n) = after_freed o now w n
after o now (event.Read w f) = deed_done now w (deed.Read f) None
after o now (event.Publish w f) = after_publish now w f
after o now (event.Answer w g) = deed_done now w (deed.Answer g) (Some g)
after o now (event.End w e) = after_end now w e

-- all events, in turn
abbrev pub standing_of : Outline → List Event → Standing
standing_of o events = fold (after o) (at_first o) events

-- each module has ended or was skipped
abbrev pub is_complete : Standing → Bool
is_complete now = list_all is_over now.progress
