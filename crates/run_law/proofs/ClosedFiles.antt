-- The law, stated: the contents (IsOwnSo, IsLeft, LeftOnce, HandLeft, Core) are proved in Owns, Left, HandFiles and Contents; the rest is still to be proved.
use Rattle.std.proofs.Common.{◌≡◌, ℕ, ◌<◌, ◌⊎◌, Bool, true, false, ◌&&◌, nat_eq, nat_lt, find, List, [], ◌++◌, length, map, slice_get, Option, Some, None, is_some, if◌then◌else◌}
use Rattle.std.specs.List.{IsDistinct, list_any}
use Rattle.std.specs.Option.{option_and_then, option_or}
use Rattle.std.specs.Ordering.{eq_by_cmp, nat_cmp}
use Rattle.std.specs.Cmp.Lexicographic.{slice_cmp}
use Rattle.mvn_shared.specs.Files.{Files, file_at}
use Rattle.build_core.specs.declared.mode.Mode.TheVariants.{Exclusive}
use Rattle.goal_types.specs.declared.goal.GoalAnswer.{GoalAnswer}
use Rattle.goal_types.specs.declared.goal.OwnBytes.{OwnBytes}
use Rattle.build_core.specs.declared.plan.OwnFile.{OwnFile}
use Rattle.build_core.specs.declared.plan.Plan.{Plan}
use Rattle.build_core.specs.declared.plan.PlanModule.{PlanModule}
use Rattle.event_core.specs.declared.entry.RunEntry.{RunEntry}
use Rattle.build_core.specs.declared.ending.State.{State}
use Rattle.build_core.specs.declared.ending.State.TheVariants.{Skipped}
use Rattle.build_core.specs.declared.event.Event.TheVariants as event
use Rattle.build_core.specs.declared.event.Answered.{Answered}
use Rattle.run_law.specs.Closed.{available, had_prefix, missing_of, outputs_at, state_at, total_len}
use Rattle.event_core.specs.Enabled.{Enabled}
use Rattle.run_law.proofs.Invariants.{IsFetchFile, IsOwnFile, outs, supply_of}
use Rattle.run_law.specs.Given.{Extends, IsPresent, is_kept, supply_by}
use Rattle.build_core.specs.Locks.{hold}
use Rattle.build_core.specs.OneThread.{Supply, is_built, lacks_artifact, most_classpath, name_of, one_thread, own_bytes}
use Rattle.scripts.specs.Outlines.{is_listed, outline_of}
use Rattle.event_core.specs.Runs.{IsComplete, IsQuiet, IsRunOf, answers_in, contents, events_of, goals_in, standing_of_run}
use Rattle.scripts.specs.Scripts.{Script, wanted}
use Rattle.event_core.specs.SoundPlans.{IsSoundPlan}
use Rattle.event_core.specs.Standing.{course_of, on_course}
use Rattle.event_core.specs.Worlds.{AllFit, HandTold, is_good, publishes}
use Rattle.run_law.proofs.JudgedRuns.{IsFitPlan}
use Rattle.run_law.proofs.Lates.{IsLateAt}
use Rattle.run_law.proofs.Stored.{AllTell}
use Rattle.build_core.specs.Slots.{kept_of}

-- what is asked of own files beside: each has one module and stands there once; and all numbers are files of the plan
pub record AreOwnsFit (plan : Plan) : Type 0 where
  pub owner : (f a b : ℕ) (m n : PlanModule) → slice_get plan.modules a ≡ Some m → slice_get plan.modules b ≡ Some n → is_listed f (map (λ (x : OwnFile). x.file) m.own) ≡ true → is_listed f (map (λ (x : OwnFile). x.file) n.own) ≡ true → a ≡ b
  pub distinct : (number : ℕ) (m : PlanModule) → slice_get plan.modules number ≡ Some m → IsDistinct nat_eq (map (λ (x : OwnFile). x.file) m.own)
  pub low : (f : ℕ) → IsOwnFile plan f → f < length plan.files
  pub fetched : (f : ℕ) → IsFetchFile plan f → f < length plan.files

-- ---- the closed form of the contents, name by name

-- the bytes of a module's own file
abbrev pub own_at : PlanModule → List OwnBytes → ℕ → Option (List ℕ)
own_at m own file = option_and_then (λ (o : OwnFile). own_bytes m own o.slot) (find (λ (o : OwnFile). nat_eq o.file file) m.own)

abbrev pub is_skipped_state : State → Bool
is_skipped_state (Skipped u) = true
is_skipped_state other = false

-- files that stand as the closed form says, where modules stand and keep so
pub record IsLeft (plan : Plan) (supply : Supply) (states : ℕ → State) (outputs : ℕ → List OwnBytes) (files : Files) : Type 0 where
  pub other : (q : List ℕ) → ((f : ℕ) → f < length plan.files → eq_by_cmp (slice_cmp nat_cmp) q (name_of plan f) ≡ false) → file_at files q ≡ file_at supply.start q
  pub neither : (f : ℕ) → f < length plan.files → (IsFetchFile plan f → ⊥) → (IsOwnFile plan f → ⊥) → file_at files (name_of plan f) ≡ file_at supply.start (name_of plan f)
  -- fetched: what is there has the bytes that can be had; what a module could have is there; and nothing else
  pub bytes : (f : ℕ) → IsFetchFile plan f → is_some (file_at files (name_of plan f)) ≡ true → file_at files (name_of plan f) ≡ available plan supply f
  pub had : (number f : ℕ) (m : PlanModule) → slice_get plan.modules number ≡ Some m → is_skipped_state (states number) ≡ false → is_listed f (had_prefix plan supply m.fetch) ≡ true → is_some (file_at files (name_of plan f)) ≡ true
  pub reason : (f : ℕ) → IsFetchFile plan f → is_some (file_at files (name_of plan f)) ≡ true
      → (is_some (file_at supply.start (name_of plan f)) ≡ true) ⊎ ((number : ℕ) × (m : PlanModule) × (slice_get plan.modules number ≡ Some m) × (is_skipped_state (states number) ≡ false) × (is_listed f (had_prefix plan supply m.fetch) ≡ true))
  pub kept : (f : ℕ) → IsFetchFile plan f → is_some (file_at supply.start (name_of plan f)) ≡ true → is_some (file_at files (name_of plan f)) ≡ true
  -- own: written exactly where the module is built and installs
  pub own : (number f : ℕ) (m : PlanModule) → slice_get plan.modules number ≡ Some m → is_listed f (map (λ (o : OwnFile). o.file) m.own) ≡ true
      → file_at files (name_of plan f) ≡ option_or (if is_built (states number) && m.installs then own_at m (outputs number) f else None) (file_at supply.start (name_of plan f))

-- two that stand so are one (`same_map` of FinMap, name by name)
abbrev pub LeftOnce : Type 0
LeftOnce = (plan : Plan) (supply : Supply) (s s' : ℕ → State) (o o' : ℕ → List OwnBytes) (a b : Files) → IsLeft plan supply s o a → IsLeft plan supply s' o' b
    → ((number : ℕ) (m : PlanModule) → slice_get plan.modules number ≡ Some m → (s number ≡ s' number) × (o number ≡ o' number)) → a ≡ b

abbrev pub HandLeft : Type 0
HandLeft = (plan : Plan) (supply : Supply) → IsFitPlan plan → AreOwnsFit plan → IsLeft plan supply (state_at (one_thread plan supply)) (outputs_at (one_thread plan supply)) (one_thread plan supply).files

-- ---- own files behind a run

abbrev pub published : List RunEntry → ℕ → Bool
published past f = list_any (λ (e : RunEntry). publishes f e.event) past

-- a module that may be installed: all its files can be had, all its goals are answered and good, and it doesn't lack its artifact
pub record IsSettled (plan : Plan) (supply : Supply) (kept : List Answered) (number : ℕ) (m : PlanModule) : Type 0 where
  pub had : missing_of plan supply m.fetch ≡ None
  pub good : is_good (goals_in kept number m) ≡ true
  pub artifact : lacks_artifact m (kept_of (goals_in kept number m)) ≡ false
  pub answered : (g : ℕ) → g < length m.goals → is_kept kept number g ≡ true

pub record IsOwnSo (plan : Plan) (start remote : Files) (past : List RunEntry) : Type 0 where
  pub settled : (number f : ℕ) (m : PlanModule) → slice_get plan.modules number ≡ Some m → is_listed f (map (λ (x : OwnFile). x.file) m.own) ≡ true → published past f ≡ true → IsSettled plan (supply_of start remote []) (answers_in plan past) number m
  pub late : (number f : ℕ) (m : PlanModule) → slice_get plan.modules number ≡ Some m → is_listed f (map (λ (o : OwnFile). o.file) m.own) ≡ true → published past f ≡ true → IsLateAt (standing_of_run plan past) number × (m.installs ≡ true)
  pub within : (number f : ℕ) (m : PlanModule) → slice_get plan.modules number ≡ Some m → is_listed f (map (λ (o : OwnFile). o.file) m.own) ≡ true → published past f ≡ true → nat_lt most_classpath (total_len plan (supply_of start remote []) (outs plan (answers_in plan past)) m.entries) ≡ false
  pub bytes : (number f : ℕ) (m : PlanModule) → slice_get plan.modules number ≡ Some m → is_listed f (map (λ (o : OwnFile). o.file) m.own) ≡ true → published past f ≡ true
      → (file_at (contents plan start past) (name_of plan f) ≡ own_at m (outs plan (answers_in plan past) number) f) × (is_some (file_at (contents plan start past) (name_of plan f)) ≡ true)
  pub fresh : (f : ℕ) → IsOwnFile plan f → published past f ≡ false → file_at (contents plan start past) (name_of plan f) ≡ file_at start (name_of plan f)

-- ---- the whole law

abbrev pub Core : Type 0
Core = (plan : Plan) (start remote : Files) (fit : IsFitPlan plan) (present : IsPresent plan start) → AreOwnsFit plan → (hands : ℕ → HandTold) → AllTell plan (supply_of start remote []) fit.differ fit.own present hands → (entries : List RunEntry)
    → IsRunOf plan entries → AllFit plan (Some start) hands [] entries → IsComplete plan entries → IsQuiet entries → (said : ℕ → ℕ → GoalAnswer) → Extends (answers_in plan entries) said
    → contents plan start entries ≡ (one_thread plan (supply_by start remote said)).files

-- at each moment each name has its start's bytes or its last ones
abbrev Between : Type 0
Between = (plan : Plan) (start remote : Files) (fit : IsFitPlan plan) (present : IsPresent plan start) (hands : ℕ → HandTold) → AllTell plan (supply_of start remote []) fit.differ fit.own present hands → (past rest : List RunEntry)
    → IsRunOf plan (past ++ rest) → AllFit plan (Some start) hands [] (past ++ rest) → (q : List ℕ)
    → (file_at (contents plan start past) q ≡ file_at start q) ⊎ (file_at (contents plan start past) q ≡ file_at (contents plan start (past ++ rest)) q)

-- each name is published once (with the locks)
abbrev Once : Type 0
Once = (plan : Plan) → IsSoundPlan plan → (past rest : List RunEntry) (w f : ℕ) → IsRunOf plan past → Enabled (outline_of plan) (events_of past) (event.Publish w f) → published past f ≡ false

-- who is to fetch a file holds its module's batch alone; so what it found absent stays absent
abbrev HoldsAlone : Type 0
HoldsAlone = (plan : Plan) (past : List RunEntry) (w number f n : ℕ) (m : PlanModule) (script : Script) (last : Option ℕ) → IsRunOf plan past → slice_get plan.modules number ≡ Some m
    → course_of (standing_of_run plan past) w ≡ on_course number script last → wanted script ≡ Some f
    → is_listed n m.batch ≡ true → hold (standing_of_run plan past).locks n w ≡ Some Exclusive
