-- Why an event may not come now: the first cause that holds. Own.
use Rattle.std.specs.Prelude.{ℕ, ◌-◌, Bool, ◌&&◌, nat_lt, slice_get, List, length, Option, Some, None, is_some, option_and_then, if◌then◌else◌}
use Rattle.std.specs.Option.{option_map_or}
use Rattle.build_core.specs.Locks.{blocker, hold}
use Rattle.build_core.specs.declared.mode.Mode.{Mode}
use Rattle.build_core.specs.declared.ending.Ending.{Ending}
use Rattle.build_core.specs.declared.ending.Ending.TheVariants as ending
use Rattle.build_core.specs.declared.event.Event.{Event}
use Rattle.build_core.specs.declared.event.Event.TheVariants as event
use Rattle.scripts.specs.declared.deed.Deed.{Deed}
use Rattle.scripts.specs.declared.deed.Deed.TheVariants as deed
use Rattle.scripts.specs.declared.outline.Outline.{Outline}
use Rattle.event_core.specs.declared.refused.NotEnabled.{NotEnabled}
use Rattle.event_core.specs.declared.refused.NotEnabled.TheVariants.{Range, Module, Upstream, Worker, Lock, Unordered, Stage, File}
use Rattle.scripts.specs.Scripts.{Script, head, published_by, read_by, stage_of, wanted}
use Rattle.event_core.specs.HowFar.{first_lost, first_not_built, is_waiting, progress_of, state_of}
use Rattle.event_core.specs.Standing.{Course, Standing, course_of, held_by, idle, module_of, off_course, on_course}
use Rattle.scripts.specs.Outlines.{is_empty}
use Rattle.event_core.specs.Enabled.{ending_in_range, goal_in_range, is_due, may_end_so}

-- a cause unless this holds, and else the rest; a cause of what was found, and else the rest
abbrev pub unless : Bool → NotEnabled → Option NotEnabled → Option NotEnabled
unless holds cause rest = if holds then rest else Some cause

abbrev pub where_found : Option ℕ → (ℕ → NotEnabled) → Option NotEnabled → Option NotEnabled
where_found found cause rest = option_map_or (λ n. Some (cause n)) found rest

-- the stage of what a worker is at
abbrev pub stage_at : Course → ℕ
stage_at idle = 1
stage_at (on_course m script last) = stage_of script
stage_at (off_course m file gathered) = 7

-- the file that is due instead, and else the stage
abbrev pub by_file : Option ℕ → Course → NotEnabled
by_file due course = option_map_or (λ f. File f) due (Stage (stage_at course))

abbrev pub script_in : Course → Option Script
script_in (on_course m script last) = Some script
script_in other = None

abbrev pub read_due : Course → Option ℕ
read_due course = option_and_then (λ s. option_and_then read_by (head s)) (script_in course)

abbrev pub publish_due : Course → Option ℕ
publish_due course = option_and_then (λ s. option_and_then published_by (head s)) (script_in course)

-- the file that a worker may end for
abbrev pub missing_due : Course → Option ℕ
missing_due idle = None
missing_due (on_course m script last) = wanted script
missing_due (off_course m file gathered) = file

-- the greatest name that is held, where it isn't below this one: the last, since names are taken ascending
abbrev pub last_of : List ℕ → Option ℕ
last_of held = slice_get held (length held - 1)

abbrev pub not_below : ℕ → List ℕ → Option ℕ
not_below n held = option_and_then (λ h. if nat_lt h n then None else Some h) (last_of held)

abbrev pub number_of : Ending → ℕ
number_of (ending.Goal i) = i
number_of (ending.OutputTooLarge i) = i
number_of (ending.Missing file) = file
number_of other = 0

-- a wrong file is named only where no name is held any more
abbrev pub free_end : Course → Ending → NotEnabled
free_end course (ending.Missing f) = by_file (missing_due course) course
free_end course other = Stage (stage_at course)

abbrev pub wrong_end : Course → List ℕ → Ending → NotEnabled
wrong_end course held e = if is_empty held then free_end course e else Stage (stage_at course)

-- ---- the causes of each event, in their order

abbrev pub begin_cause : Outline → Standing → ℕ → ℕ → Option NotEnabled
begin_cause o now w m = where_found (first_not_built o now.progress m) (λ u. Upstream u) (where_found (module_of (course_of now w)) (λ at. Worker at) None)

abbrev pub start_cause : Outline → Standing → ℕ → ℕ → Option NotEnabled
start_cause o now w m =
    unless (nat_lt w o.workers) (Range w) (
    unless (nat_lt m (length o.modules)) (Range m) (
    unless (is_waiting (progress_of now.progress m)) (Module (state_of o now.progress m)) (begin_cause o now w m)))

abbrev pub skip_cause : Outline → Standing → ℕ → Option NotEnabled
skip_cause o now m =
    unless (nat_lt m (length o.modules)) (Range m) (
    unless (is_waiting (progress_of now.progress m) && is_some (first_lost o now.progress m)) (Module (state_of o now.progress m)) None)

abbrev pub hold_cause : Standing → ℕ → ℕ → Mode → Option NotEnabled
hold_cause now w n mode = where_found (not_below n (held_by now w)) (λ h. Unordered h) (unless (is_due (course_of now w) (deed.Take mode n)) (Stage (stage_at (course_of now w))) None)

abbrev pub take_cause : Outline → Standing → ℕ → ℕ → Mode → Option NotEnabled
take_cause o now w n mode =
    unless (nat_lt w o.workers) (Range w) (
    unless (nat_lt n o.names) (Range n) (
    where_found (blocker now.locks n w mode) (λ h. Lock h) (hold_cause now w n mode)))

abbrev pub free_cause : Outline → Standing → ℕ → ℕ → Option NotEnabled
free_cause o now w n =
    unless (nat_lt w o.workers) (Range w) (
    unless (nat_lt n o.names) (Range n) (
    unless (is_some (hold now.locks n w)) (Stage (stage_at (course_of now w))) None))

-- a deed of a file, where another file may be due
abbrev pub file_cause : Outline → Standing → ℕ → ℕ → Deed → Option ℕ → Option NotEnabled
file_cause o now w f d due =
    unless (nat_lt w o.workers) (Range w) (
    unless (nat_lt f (length o.present)) (Range f) (
    unless (is_due (course_of now w) d) (by_file due (course_of now w)) None))

abbrev pub answer_cause : Outline → Standing → ℕ → ℕ → Option NotEnabled
answer_cause o now w g =
    unless (nat_lt w o.workers) (Range w) (
    unless (goal_in_range o (course_of now w) g) (Range g) (
    unless (is_due (course_of now w) (deed.Answer g)) (Stage (stage_at (course_of now w))) None))

abbrev pub end_cause : Outline → Standing → ℕ → Ending → Option NotEnabled
end_cause o now w e =
    unless (nat_lt w o.workers) (Range w) (
    unless (ending_in_range o (course_of now w) e) (Range (number_of e)) (
    unless (is_empty (held_by now w) && may_end_so o (course_of now w) e) (wrong_end (course_of now w) (held_by now w) e) None))

unfoldable pub cause_now : Outline → Standing → Event → Option NotEnabled
cause_now o now (event.Start w m) = start_cause o now w m
cause_now o now (event.Skip m) = skip_cause o now m
cause_now o now (event.Take w n mode) = take_cause o now w n mode
cause_now o now (event.Free w n) = free_cause o now w n
cause_now o now (event.Read w f) = file_cause o now w f (deed.Read f) (read_due (course_of now w))
cause_now o now (event.Publish w f) = file_cause o now w f (deed.Publish f) (publish_due (course_of now w))
cause_now o now (event.Answer w g) = answer_cause o now w g
cause_now o now (event.End w e) = end_cause o now w e
