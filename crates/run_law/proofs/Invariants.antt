-- What holds behind every run. Own.
use Rattle.std.specs.Prelude.{◌≡◌, ℕ, ◌<◌, Bool, true, false, nat_lt, ◌&&◌, List, [], ◌∷◌, ◌++◌, length, map, slice_get, Some, None, is_some, ◌==◌}
use Rattle.std.specs.List.{list_all, list_any}
use Rattle.std.specs.Option.{option_map_or}
use Rattle.std.specs.Ordering.{eq_by_cmp, nat_cmp}
use Rattle.std.specs.Cmp.Lexicographic.{slice_cmp}
use Rattle.mvn_shared.specs.Files.{Files, file_at}
use Rattle.build_core.specs.declared.plan.Plan.{Plan}
use Rattle.build_core.specs.declared.plan.PlanModule.{PlanModule}
use Rattle.build_core.specs.declared.plan.OwnFile.{OwnFile}
use Rattle.goal_types.specs.declared.goal.OwnBytes.{OwnBytes}
use Rattle.build_core.specs.declared.event.Answered.{Answered}
use Rattle.build_core.specs.declared.ending.Ending.{Ending}
use Rattle.build_core.specs.declared.ending.Ending.TheVariants as ending
use Rattle.build_core.specs.declared.ending.State.TheVariants as state
use Rattle.event_core.specs.declared.module_steps.Progress.{Progress}
use Rattle.event_core.specs.declared.module_steps.Progress.TheVariants.{Running, Ended}
use Rattle.build_core.specs.Slots.{kept_of}
use Rattle.build_core.specs.OneThread.{Supply, answer_at, most_classpath, name_of}
use Rattle.run_law.specs.Closed.{Verdict, available, missing_of, total_len, verdict_of_fetch}
use Rattle.event_core.specs.Runs.{goals_in}
use Rattle.scripts.specs.declared.outline.Outline.{Outline}
use Rattle.scripts.specs.declared.outline.ModuleOutline.{ModuleOutline}
use Rattle.scripts.specs.Scripts.{Script, Step, absent, answers, fetches, is_there, may_publish, publishes, step, wanted, whole}
use Rattle.event_core.specs.HowFar.{progress_of}
use Rattle.event_core.specs.Standing.{Course, Standing, course_of, idle, off_course, on_course}
use Rattle.scripts.specs.Outlines.{is_listed}

-- the files of a script: those that are fetched, and behind them those that it is installed as
abbrev pub files_fit : (fetch own : List ℕ) → Script → Bool
files_fit fetch own whole = true
files_fit fetch own (absent files this that) = files_fit fetch own this && files_fit fetch own that
files_fit fetch own (step stage (fetches f) rest) = is_listed f fetch && files_fit fetch own rest
files_fit fetch own (step stage (publishes f) rest) = is_listed f own && files_fit fetch own rest
files_fit fetch own (step stage (may_publish f) rest) = is_listed f own && files_fit fetch own rest && files_fit [] own rest
files_fit fetch own (step stage other rest) = files_fit fetch own rest

-- a course: its files are its module's, and a file that it is to fetch wasn't there at the start
abbrev pub IsCourseFit : Outline → Course → Type 0
IsCourseFit o idle = Unit {0}
IsCourseFit o (off_course number file gathered) = Unit {0}
IsCourseFit o (on_course number script last) = ((m : ModuleOutline) → slice_get o.modules number ≡ Some m → files_fit m.fetch m.own script ≡ true) × ((f : ℕ) → wanted script ≡ Some f → is_there o.present f ≡ false)

pub record AreCoursesFit (o : Outline) (now : Standing) : Type 0 where
  pub courses : (w : ℕ) → IsCourseFit o (course_of now w)
  pub grows : (f : ℕ) → is_there o.present f ≡ true → is_there now.there f ≡ true

-- ---- the repository

-- a file that some module fetches, and one that a module is installed as
abbrev pub IsFetchFile : Plan → ℕ → Type 0
IsFetchFile plan f = (number : ℕ) × (m : PlanModule) × (slice_get plan.modules number ≡ Some m) × (is_listed f m.fetch ≡ true)

abbrev pub IsOwnFile : Plan → ℕ → Type 0
IsOwnFile plan f = (number : ℕ) × (m : PlanModule) × (slice_get plan.modules number ≡ Some m) × (is_listed f (map (λ (x : OwnFile). x.file) m.own) ≡ true)

-- what is asked of a plan here: its files differ, and no own file is fetched
abbrev pub FilesDiffer : Plan → Type 0
FilesDiffer plan = (f g : ℕ) → f < length plan.files → g < length plan.files → eq_by_cmp (slice_cmp nat_cmp) (name_of plan f) (name_of plan g) ≡ true → f ≡ g

abbrev pub OwnApart : Plan → Type 0
OwnApart plan = (f : ℕ) → IsFetchFile plan f → IsOwnFile plan f → ⊥

-- how the repository stands: which files are there, and that those that are fetched have the bytes that can be had
pub record IsStored (plan : Plan) (supply : Supply) (now : Standing) (files : Files) : Type 0 where
  pub sized : length now.there ≡ length plan.files
  pub there : (f : ℕ) → f < length plan.files → is_there now.there f ≡ is_some (file_at files (name_of plan f))
  pub bytes : (f : ℕ) → IsFetchFile plan f → f < length plan.files → is_there now.there f ≡ true → file_at files (name_of plan f) ≡ available plan supply f
  pub other : (q : List ℕ) → ((f : ℕ) → f < length plan.files → eq_by_cmp (slice_cmp nat_cmp) q (name_of plan f) ≡ false) → file_at files q ≡ file_at supply.start q

-- ---- what is fetched in order

-- the files that a script is still to fetch
abbrev pub pending : Script → List ℕ
pending whole = []
pending (absent files this that) = pending this
pending (step stage (fetches f) rest) = f ∷ pending rest
pending (step stage other rest) = pending rest

abbrev pub is_answering : Step → Bool
is_answering (answers g) = true
is_answering other = false

-- a script fetches before all that follows
abbrev pub IsShaped : List ℕ → Script → Type 0
IsShaped fetch whole = Unit {0}
IsShaped fetch (absent files this that) = (files ≡ fetch) × (pending that ≡ []) × IsShaped fetch this × IsShaped fetch that
IsShaped fetch (step stage s rest) = (nat_lt 3 stage ≡ true → pending (step stage s rest) ≡ []) × (is_answering s ≡ true → pending rest ≡ []) × IsShaped fetch rest

-- what stands before some files of the fetch list is there
pub record IsPassed (there : List Bool) (fetch left : List ℕ) : Type 0 where
  pub passed : List ℕ
  pub split : fetch ≡ passed ++ left
  pub here : list_all (is_there there) passed ≡ true

-- a file is the first of the fetch list that isn't there, and wasn't at the start
pub record IsWanting (o : Outline) (there : List Bool) (fetch : List ℕ) (f : ℕ) : Type 0 where
  pub behind : List ℕ
  pub before : IsPassed there fetch (f ∷ behind)
  pub fresh : is_there o.present f ≡ false

abbrev pub IsGathering : Outline → List Bool → Course → Type 0
IsGathering o there idle = Unit {0}
IsGathering o there (on_course number script last) = (m : ModuleOutline) → slice_get o.modules number ≡ Some m → IsShaped m.fetch script × IsPassed there m.fetch (pending script) × (is_some last ≡ true → pending script ≡ [])
IsGathering o there (off_course number file gathered) = (m : ModuleOutline) → slice_get o.modules number ≡ Some m → ((f : ℕ) → file ≡ Some f → IsWanting o there m.fetch f) × (gathered ≡ true → list_all (is_there there) m.fetch ≡ true)

abbrev pub AreGathering : Outline → Standing → Type 0
AreGathering o now = (w : ℕ) → IsGathering o now.there (course_of now w)

-- ---- answers, and how modules ended

-- what a run is given, with the answers that it keeps
abbrev pub supply_of : (start remote : Files) → List Answered → Supply
supply_of start remote kept = record { start = start; remote = remote; answers = answer_at kept }

-- the outputs that a module keeps
abbrev pub outs : Plan → List Answered → ℕ → List OwnBytes
outs plan kept number = option_map_or (λ m. kept_of (goals_in kept number m)) (slice_get plan.modules number) []

abbrev pub has_answer : List Answered → ℕ → Bool
has_answer kept number = list_any (λ (a : Answered). a.«module» == number) kept

abbrev pub is_begun : Progress → Bool
is_begun (Running w) = true
is_begun (Ended e) = true
is_begun other = false

-- whose answers are kept has begun, and all that its classpath needs was had, within the limit
pub record AreKept (plan : Plan) (start remote : Files) (now : Standing) (kept : List Answered) : Type 0 where
  pub begun : (number : ℕ) → has_answer kept number ≡ true → is_begun (progress_of now.progress number) ≡ true
  pub had : (number : ℕ) (m : PlanModule) → slice_get plan.modules number ≡ Some m → has_answer kept number ≡ true → missing_of plan (supply_of start remote kept) m.fetch ≡ None
  pub within : (number : ℕ) (m : PlanModule) → slice_get plan.modules number ≡ Some m → has_answer kept number ≡ true → nat_lt most_classpath (total_len plan (supply_of start remote kept) (outs plan kept) m.entries) ≡ false

abbrev pub is_quiet_end : Ending → Bool
is_quiet_end (ending.Fault device) = false
is_quiet_end ending.Memory = false
is_quiet_end other = true

-- each module that ended, otherwise than by a fault or for want of memory, ended as it is judged
abbrev pub AreEnded : Plan → (start remote : Files) → Standing → List Answered → Type 0
AreEnded plan start remote now kept = (number : ℕ) (m : PlanModule) (e : Ending) → slice_get plan.modules number ≡ Some m → progress_of now.progress number ≡ Ended e → is_quiet_end e ≡ true
    → ◌≡◌ {A = Verdict} (record { state = state.Ended e; outputs = outs plan kept number }) (verdict_of_fetch plan (supply_of start remote kept) number m (outs plan kept) (missing_of plan (supply_of start remote kept) m.fetch))
