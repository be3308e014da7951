-- How a worker may stop while a file is to be fetched.
use Rattle.std.proofs.Common.{◌≡◌, ◌⊎◌, inl, inr, ℕ, ◌<◌, Bool, true, false, nat_eq, nat_lt, List, [], ◌∷◌, get_or, length, Some, None, IfSome, refl, arith, sym, ap, subst, ◌∙◌}
use Rattle.std.proofs.lemmas.Bool.Decides.{nat_tests}
use Rattle.build_core.specs.declared.mode.Mode.TheVariants.{Exclusive}
use Rattle.mvn_outside.specs.declared.fault.DeviceFault.{DeviceFault}
use Rattle.mvn_outside.specs.declared.fault.DeviceFault.TheVariants as fault
use Rattle.build_core.specs.OneThread.{name_of, remote_bytes}
use Rattle.build_core.specs.declared.ending.Device.{Device}
use Rattle.build_core.specs.declared.ending.Device.TheVariants as device
use Rattle.build_core.specs.declared.ending.Ending.{Ending}
use Rattle.build_core.specs.declared.ending.Ending.TheVariants as ending
use Rattle.scripts.specs.declared.script_place.ScriptPlace.TheVariants as place
use Rattle.event_core.specs.HowFar.{is_this}
use Rattle.event_core.specs.Enabled.{ending_in_range, may_end_so}
use Rattle.scripts.specs.Outlines.{module_outline}
use Rattle.event_core.specs.Runs.{standing_of_run}
use Rattle.scripts.specs.ScriptPlaces.{rest_of}
use Rattle.scripts.specs.Scripts.{read_script, fetches, wanted}
use Rattle.event_core.specs.Standing.{Course, course_of, held_by, module_of, off_course, on_course}
use Rattle.event_core.specs.SoundPlans.{IsSoundPlan}
use Rattle.event_core.specs.Worlds.{FitsEnd, HandTold}
use Rattle.scripts.proofs.ScriptPlaces.{steps_at}
use Rattle.run_law.proofs.Ready.{all_listed}
use Rattle.run_law.proofs.Sounds.{fetch_low}
use Rattle.run_law.proofs.Stored.{get_map}
use Rattle.run_law.proofs.Staying.{course_stays, held_stays}
use Rattle.run_law.proofs.Freeing.{fetching}
use Rattle.atomic_table.specs.Seated.{TableId}
use Rattle.crew_turns.specs.Seen.{Sees, Told, course_by, seen_by}
use Rattle.crew_turns.specs.Tasks.{IsTask, ModuleTask, plan_outline, stood_by, unit_outline}
use Rattle.crew_turns.specs.Endings.{publish_end}
use Rattle.crew_turns.specs.Stages.{LacksFile}
use Rattle.crew_turns.specs.Stops.{MayEnd, MayStop, freed_course}
use Rattle.crew_modules.specs.Fetched.{IsPieceEnd}
use Rattle.crew_modules.proofs.Placing.{listed_at}

-- where others' entries came alone, the file is still to be fetched
pub lacks_still : (t : ModuleTask) (at : ℕ) (lock : TableId) (before pass : Told) → Sees t.plan lock t.worker before pass → LacksFile t Exclusive at before → LacksFile t Exclusive at pass
lacks_still t at lock before pass sees lacks = (
  lacks.0,
  record {
    course = ap (λ log. course_of (standing_of_run t.plan log) t.worker) sees.log ∙ course_stays t.plan (seen_by before) sees.others t.worker sees.apart ∙ lacks.1.course;
    held = ap (λ log. held_by (standing_of_run t.plan log) t.worker) sees.log ∙ held_stays t.plan (seen_by before) sees.others t.worker sees.apart ∙ lacks.1.held;
  },
)

-- the module may end for the file at a place, by a fault, and for want of memory
abbrev pub IsEndAt : (file : ℕ) → Ending → Type 0
IsEndAt file e = (e ≡ ending.Missing file) ⊎ ((d : Device) × (e ≡ ending.Fault d)) ⊎ (e ≡ ending.Memory)

module _ (t : ModuleTask) (at : ℕ) (is : IsTask t) (sound : IsSoundPlan t.plan) where
  abbrev file : ℕ
  file = get_or t.unit.fetch at 0

  abbrev course : Course
  course = on_course t.number (rest_of (unit_outline t) (place.Fetching at)) None

  -- the file is the plan's
  pub in_range : at < length t.unit.fetch → nat_lt file (length t.plan.present) ≡ true
  in_range low =
      all_listed (λ x. nat_lt x (length t.plan.present)) t.unit.fetch (sound.places t.number (unit_outline t) (get_map module_outline t.plan.modules t.number t.unit is)).fetch file (listed_at t.unit.fetch at low)

  pub file_low : at < length t.unit.fetch → file < length t.plan.files
  file_low low = fetch_low t.plan sound file (t.number, t.unit, is, listed_at t.unit.fetch at low)

  wants : at < length t.unit.fetch → wanted (rest_of (unit_outline t) (place.Fetching at)) ≡ Some file
  unfolding rest_of
  wants low = ap wanted (steps_at 3 fetches t.unit.fetch at (read_script (unit_outline t)) low)

  module _ (low : at < length t.unit.fetch) (there : List Bool) where
    -- freed, in whatever order
    freed_ends : (names : List ℕ) (e : Ending) → IsEndAt file e → may_end_so (plan_outline t) (freed_course (plan_outline t) there names course) e ≡ true
    freed_ends [] e (inl same) = subst (λ x. may_end_so (plan_outline t) course x ≡ true) (sym same) (ap (λ o. is_this o file) (wants low) ∙ itself file)
      where
        itself : (n : ℕ) → nat_eq n n ≡ true
        itself n = grind (arith, nat_tests)
    freed_ends [] e (inr (inl d)) = subst (λ x. may_end_so (plan_outline t) course x ≡ true) (sym d.1) refl
    freed_ends [] e (inr (inr same)) = subst (λ x. may_end_so (plan_outline t) course x ≡ true) (sym same) refl
    freed_ends (n ∷ names) e is_end =
        subst (λ c. may_end_so (plan_outline t) c e ≡ true) (sym (fetching (plan_outline t) (unit_outline t) t.number None there (get_map module_outline t.plan.modules t.number t.unit is) at low)) (by is_end)
      where
        itself : (n : ℕ) → nat_eq n n ≡ true
        itself n = grind (arith, nat_tests)

        by : IsEndAt file e → may_end_so (plan_outline t) (off_course t.number (Some file) false) e ≡ true
        by (inl same) = subst (λ x. may_end_so (plan_outline t) (off_course t.number (Some file) false) x ≡ true) (sym same) (itself file)
        by (inr (inl d)) = subst (λ x. may_end_so (plan_outline t) (off_course t.number (Some file) false) x ≡ true) (sym d.1) refl
        by (inr (inr same)) = subst (λ x. may_end_so (plan_outline t) (off_course t.number (Some file) false) x ≡ true) (sym same) refl

  ranged : at < length t.unit.fetch → (e : Ending) → IsEndAt file e → ending_in_range (plan_outline t) course e ≡ true
  ranged low e (inl same) = subst (λ x. ending_in_range (plan_outline t) course x ≡ true) (sym same) (in_range low)
  ranged low e (inr (inl d)) = subst (λ x. ending_in_range (plan_outline t) course x ≡ true) (sym d.1) refl
  ranged low e (inr (inr same)) = subst (λ x. ending_in_range (plan_outline t) course x ≡ true) (sym same) refl

  -- so it may end
  pub may_end : (pass : Told) (e : Ending) → LacksFile t Exclusive at pass → IsEndAt file e → MayEnd t e pass
  may_end pass e lacks is_end = record {
    whose = ap module_of lacks.1.course;
    ends = λ there.
        subst (λ ns. may_end_so (plan_outline t) (freed_course (plan_outline t) there ns (course_by t.plan t.worker pass)) e ≡ true) (sym lacks.1.held)
        (subst (λ c. may_end_so (plan_outline t) (freed_course (plan_outline t) there t.unit.batch c) e ≡ true) (sym lacks.1.course) (freed_ends lacks.0 there t.unit.batch e is_end));
    range = subst (λ c. ending_in_range (plan_outline t) c e ≡ true) (sym lacks.1.course) (ranged lacks.0 e is_end);
  }

  piece_end : (e : Ending) → IsPieceEnd file e → IsEndAt file e
  piece_end e (inl (inl same)) = inl same
  piece_end e (inl (inr (inl same))) = inr (inl (device.Remote, same))
  piece_end e (inl (inr (inr same))) = inr (inr same)
  piece_end e (inr (inl same)) = inr (inl (device.Area, same))
  piece_end e (inr (inr same)) = inr (inr same)

  fits_end : (pass : Told) (told : HandTold) (e : Ending) → IsEndAt file e → (e ≡ ending.Missing file → IfSome told.remote (λ files. remote_bytes files (name_of t.plan file) ≡ None)) → FitsEnd (stood_by t pass) told e
  fits_end pass told e (inl same) missing = subst (FitsEnd (stood_by t pass) told) (sym same) (missing same)
  fits_end pass told e (inr (inl d)) missing = subst (FitsEnd (stood_by t pass) told) (sym d.1) tt
  fits_end pass told e (inr (inr same)) missing = subst (FitsEnd (stood_by t pass) told) (sym same) tt

  -- where the file isn't had, it may stop so
  pub stops : (pass : Told) (told : HandTold) (e : Ending) → LacksFile t Exclusive at pass → IsPieceEnd file e
      → (e ≡ ending.Missing file → IfSome told.remote (λ files. remote_bytes files (name_of t.plan file) ≡ None)) → MayStop t told e pass
  stops pass told e lacks is_end missing = record { may = may_end pass e lacks (piece_end e is_end); fits = fits_end pass told e (piece_end e is_end) missing }

  -- and where the repository didn't take it
  pub publish_stops : (pass : Told) (told : HandTold) (f : DeviceFault) → LacksFile t Exclusive at pass → MayStop t told (publish_end f) pass
  publish_stops pass told fault.Failed lacks = record { may = may_end pass (ending.Fault device.Shelf) lacks (inr (inl (device.Shelf, refl))); fits = tt }
  publish_stops pass told fault.Memory lacks = record { may = may_end pass ending.Memory lacks (inr (inr refl)); fits = tt }
