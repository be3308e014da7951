-- Which event may follow a list of events. Own; Resolver, "Named Locks", for what excludes what.
use Rattle.std.specs.Prelude.{◌≡◌, ℕ, ◌<◌, Bool, true, false, ◌&&◌, nat_eq, nat_lt, List, [], ◌∷◌, ◌++◌, length, Option, None, is_some}
use Rattle.std.specs.List.{list_all}
use Rattle.std.specs.Option.{option_map_or}
use Rattle.std.specs.Prelude.{slice_get}
use Rattle.build_core.specs.Locks.{blocker, hold}
use Rattle.build_core.specs.declared.ending.Ending.{Ending}
use Rattle.build_core.specs.declared.ending.Ending.TheVariants as ending
use Rattle.build_core.specs.declared.event.Event.{Event}
use Rattle.build_core.specs.declared.event.Event.TheVariants as event
use Rattle.scripts.specs.declared.deed.Deed.{Deed}
use Rattle.scripts.specs.declared.deed.Deed.TheVariants as deed
use Rattle.scripts.specs.declared.outline.Outline.{Outline}
use Rattle.scripts.specs.declared.outline.ModuleOutline.{ModuleOutline}
use Rattle.scripts.specs.Scripts.{Script, done, is_gathered, is_to_install, may_end, wanted}
use Rattle.event_core.specs.HowFar.{CanSkip, CanStart, fail_at_end, is_this, is_waiting, progress_of}
use Rattle.event_core.specs.Standing.{Course, Standing, course_of, goals_of, held_by, idle, module_of, off_course, on_course, standing_of}

-- whether a deed is the next one of a worker's script
abbrev pub is_due : Course → Deed → Bool
is_due (on_course m script last) d = is_some (done script d)
is_due other d = false

abbrev pub needs_artifact : Outline → ℕ → Bool
needs_artifact o m = option_map_or (λ (x : ModuleOutline). x.needs_artifact) (slice_get o.modules m) false

-- whether a module on its script may end so, and one that left it
abbrev pub on_ends : Outline → ℕ → Script → Option ℕ → Ending → Bool
on_ends o m script last ending.Built = may_end script
on_ends o m script last (ending.Missing file) = is_this (wanted script) file
on_ends o m script last ending.ClasspathTooLarge = is_gathered (goals_of o m) script
on_ends o m script last (ending.Goal i) = is_this last i
on_ends o m script last (ending.OutputTooLarge i) = is_this last i
on_ends o m script last ending.NoArtifact = is_to_install script && needs_artifact o m
on_ends o m script last (ending.Fault device) = true
on_ends o m script last ending.Memory = true

abbrev pub off_ends : Option ℕ → Bool → Ending → Bool
off_ends file gathered (ending.Missing f) = is_this file f
off_ends file gathered ending.ClasspathTooLarge = gathered
off_ends file gathered (ending.Fault device) = true
off_ends file gathered ending.Memory = true
off_ends file gathered other = false

abbrev pub may_end_so : Outline → Course → Ending → Bool
may_end_so o idle e = false
may_end_so o (on_course m script last) e = on_ends o m script last e
may_end_so o (off_course m file gathered) e = off_ends file gathered e

-- the numbers of an ending are in range: a file's, and where the worker builds a module a goal's
abbrev pub goal_in_range : Outline → Course → ℕ → Bool
goal_in_range o course g = option_map_or (λ m. nat_lt g (goals_of o m)) (module_of course) true

abbrev pub ending_in_range : Outline → Course → Ending → Bool
ending_in_range o course (ending.Goal i) = goal_in_range o course i
ending_in_range o course (ending.OutputTooLarge i) = goal_in_range o course i
ending_in_range o course (ending.Missing file) = nat_lt file (length o.present)
ending_in_range o course other = true

-- the event may come now
abbrev pub IsEnabled : Outline → Standing → Event → Type 0
IsEnabled o now (event.Start w m) = (w < o.workers) × (m < length o.modules) × (is_waiting (progress_of now.progress m) ≡ true) × CanStart fail_at_end o now.progress m × (module_of (course_of now w) ≡ None)
IsEnabled o now (event.Skip m) = (m < length o.modules) × (is_waiting (progress_of now.progress m) ≡ true) × CanSkip fail_at_end o now.progress m
IsEnabled o now (event.Take w n mode) = (w < o.workers) × (n < o.names) × (blocker now.locks n w mode ≡ None) × (list_all (λ h. nat_lt h n) (held_by now w) ≡ true) × (is_due (course_of now w) (deed.Take mode n) ≡ true)
IsEnabled o now (event.Free w n) = (w < o.workers) × (n < o.names) × (is_some (hold now.locks n w) ≡ true)
IsEnabled o now (event.Read w f) = (w < o.workers) × (f < length o.present) × (is_due (course_of now w) (deed.Read f) ≡ true)
IsEnabled o now (event.Publish w f) = (w < o.workers) × (f < length o.present) × (is_due (course_of now w) (deed.Publish f) ≡ true)
IsEnabled o now (event.Answer w g) = (w < o.workers) × (goal_in_range o (course_of now w) g ≡ true) × (is_due (course_of now w) (deed.Answer g) ≡ true)
IsEnabled o now (event.End w e) = (w < o.workers) × (ending_in_range o (course_of now w) e ≡ true) × (held_by now w ≡ []) × (may_end_so o (course_of now w) e ≡ true)

-- the event may follow these
unfoldable pub Enabled : Outline → List Event → Event → Type 0
Enabled o events e = IsEnabled o (standing_of o events) e

-- each event may follow those before it
abbrev pub IsRun : Outline → List Event → List Event → Type 0
IsRun o past [] = Unit {0}
IsRun o past (e ∷ events) = Enabled o past e × IsRun o (past ++ e ∷ []) events
