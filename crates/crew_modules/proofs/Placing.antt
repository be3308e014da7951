-- Where a worker is in its fetch list: what is due there, and where it is behind a file that it published.
use Rattle.std.proofs.Common.{◌≡◌, ℕ, zero, suc, ◌+◌, ◌<◌, Bool, true, false, ◌||◌, nat_eq, nat_lt, List, [], ◌∷◌, ◌++◌, get_or, length, set, Option, Some, None, is_some, refl, arith, sym, ap, subst, ◌∙◌, if◌then◌else◌}
use Rattle.std.specs.Option.{option_map_or}
use Rattle.std.proofs.lemmas.Bool.{false≢true}
use Rattle.std.proofs.lemmas.Bool.Decides.{nat_tests}
use Rattle.std.proofs.lemmas.List.{get_or-set_same}
use Rattle.build_core.specs.Locks.{below}
use Rattle.build_core.specs.declared.mode.Mode.TheVariants.{Exclusive}
use Rattle.build_core.specs.declared.event.Event.TheVariants as event
use Rattle.scripts.specs.declared.deed.Deed.TheVariants as deed
use Rattle.event_core.specs.declared.entry.Carried.{Carried}
use Rattle.event_core.specs.declared.entry.RunEntry.{RunEntry}
use Rattle.scripts.specs.declared.outline.ModuleOutline.{ModuleOutline}
use Rattle.scripts.specs.declared.script_place.ScriptPlace.TheVariants as place
use Rattle.event_core.specs.Enabled.{Enabled, is_due}
use Rattle.scripts.specs.Outlines.{is_empty, is_listed, outline_of}
use Rattle.event_core.specs.Runs.{IsRunOf, events_of, module_by, standing_of_run}
use Rattle.scripts.specs.ScriptPlaces.{rest_of}
use Rattle.scripts.specs.Scripts.{Script, answers, install_script, own_script, reads, release_script, settled, stage_of, step, steps, takes, whole}
use Rattle.event_core.specs.Standing.{Standing, after, after_deed, course_of, held_by, idle, module_of, on_course}
use Rattle.scripts.proofs.Dues.{fetch_yes}
use Rattle.run_law.proofs.Complete.{standing}
use Rattle.run_law.proofs.LaterMoments.{front, next_is}
use Rattle.run_law.proofs.Staying.{course_stays, gathered, held_stays}
use Rattle.run_law.specs.Absent.{IsFirstAbsent}
use Rattle.run_law.proofs.Settling.{fetching, late}
use Rattle.atomic_table.specs.Seated.{TableId}
use Rattle.crew_turns.specs.Seen.{IsOf, Steps, Told, course_by, names_by, seen_by, there_by}
use Rattle.crew_turns.specs.Tasks.{IsTask, ModuleTask, unit_outline}
use Rattle.crew_turns.specs.Stages.{IsTaken, LacksFile}

-- the file at a place of a list is listed
pub listed_at : (xs : List ℕ) (at : ℕ) → at < length xs → is_listed (get_or xs at 0) xs ≡ true
listed_at [] at low = absurd (omega (arith, low))
listed_at (x ∷ xs) zero low = by (nat_eq x x) (grind (arith, nat_tests))
  where
    by : (b : Bool) → b ≡ true → (b || is_listed x xs) ≡ true
    by true e = refl
    by false e = absurd (false≢true e)
listed_at (x ∷ xs) (suc at) low = by (nat_eq x (get_or xs at 0)) (listed_at xs at (omega (arith, low)))
  where
    by : (b : Bool) → is_listed (get_or xs at 0) xs ≡ true → (b || is_listed (get_or xs at 0) xs) ≡ true
    by true e = refl
    by false e = e

-- from the reading on a script is beyond what is fetched
module _ (m : ModuleOutline) (empty : Bool) where
  abbrev IsLate : Script → Type 0
  IsLate s = nat_lt 3 (stage_of (settled [] empty s)) ≡ true

  securing : IsLate (install_script m)
  securing = by m.installs
    where
      by : (b : Bool) → IsLate (if b then step 6 (takes Exclusive m.own_name) (own_script m.own) else whole)
      by true = refl
      by false = refl

  answering : (xs : List ℕ) → IsLate (steps 5 answers xs (install_script m))
  answering [] = securing
  answering (x ∷ xs) = refl

  releasing : IsLate (release_script m)
  releasing = by empty (answering (below m.goals))
    where
      by : (b : Bool) → IsLate (steps 5 answers (below m.goals) (install_script m)) → nat_lt 3 (stage_of (if b then settled [] empty (steps 5 answers (below m.goals) (install_script m)) else release_script m)) ≡ true
      by true is = is
      by false is = refl

  reading : (xs : List ℕ) → IsLate (steps 4 reads xs (release_script m))
  reading [] = releasing
  reading (x ∷ xs) = refl

  pub reading_late : IsLate (rest_of m (place.Reading 0))
  unfolding rest_of
  reading_late = reading m.reads

-- where a worker has a file to fetch, and publishes it
module _ (t : ModuleTask) (at : ℕ) (lock : TableId) (before : Told) (is : IsTask t) (of : IsOf t.plan lock t.worker before) (lacks : LacksFile t Exclusive at before) where
  -- it is at its module
  pub at_module : module_by t.plan (seen_by before) t.worker ≡ Some t.number
  at_module = ap module_of lacks.1.course

  -- that file may be published
  pub due : is_due (course_by t.plan t.worker before) (deed.Publish (get_or t.unit.fetch at 0)) ≡ true
  due =
      let file = get_or t.unit.fetch at 0 in
      ap (λ c. is_due c (deed.Publish file)) lacks.1.course
      ∙ ap is_some (sym (fetch_yes (unit_outline t) at file lacks.0 (grind (arith, nat_tests))))

  abbrev entry : Carried → RunEntry
  entry what = record { event = event.Publish t.worker (get_or t.unit.fetch at 0); carried = what }

  -- behind the publish it has what is left of the list
  abbrev Behind : Standing → Type 0
  Behind now = (course_of now t.worker ≡ on_course t.number (settled now.there (is_empty t.unit.batch) (rest_of (unit_outline t) (place.Fetching (at + 1)))) None) × (held_by now t.worker ≡ t.unit.batch)

  published : (now : Standing) → t.worker < length now.courses → course_of now t.worker ≡ on_course t.number (rest_of (unit_outline t) (place.Fetching at)) None → held_by now t.worker ≡ t.unit.batch
      → Behind (after (outline_of t.plan) now (event.Publish t.worker (get_or t.unit.fetch at 0)))
  unfolding after
  published now low course held =
      let file = get_or t.unit.fetch at 0 in
      let there = set now.there file true in
      let found = fetch_yes (unit_outline t) at file lacks.0 (grind (arith, nat_tests)) in
      let next : after_deed there (held_by now t.worker) (deed.Publish file) None (course_of now t.worker)
      ≡ on_course t.number (settled there (is_empty t.unit.batch) (rest_of (unit_outline t) (place.Fetching (at + 1)))) None =
      ap (after_deed there (held_by now t.worker) (deed.Publish file) None) course
      ∙ ap (λ ns. after_deed there ns (deed.Publish file) None (on_course t.number (rest_of (unit_outline t) (place.Fetching at)) None)) held
      ∙ ap (λ o. option_map_or (λ rest. on_course t.number (settled there (is_empty t.unit.batch) rest) None) o (on_course t.number (rest_of (unit_outline t) (place.Fetching at)) None)) (sym found) in
      (get_or-set_same now.courses t.worker (after_deed there (held_by now t.worker) (deed.Publish file) None (course_of now t.worker)) idle low ∙ next, held)

  module _ (pass : Told) (step : Steps t.plan lock t.worker (event.Publish t.worker (get_or t.unit.fetch at 0)) before pass) where
    behind : Behind (standing_of_run t.plan (seen_by pass))
    unfolding Enabled
    behind =
        let past = seen_by before ++ step.others in
        let e = entry step.what in
        let run : IsRunOf t.plan (past ++ e ∷ []) = subst (IsRunOf t.plan) step.log step.of.run in
        let parts = front t.plan past (e ∷ []) run in
        let low = parts.1.0.0 in
        let courses = (standing (outline_of t.plan) (events_of past) parts.0).fit.courses in
        let here : standing_of_run t.plan (seen_by pass) ≡ after (outline_of t.plan) (standing_of_run t.plan past) e.event = ap (standing_of_run t.plan) step.log ∙ next_is t.plan 0 past e in
        subst Behind (sym here)
        (published (standing_of_run t.plan past) (omega (arith, low, courses))
        (course_stays t.plan (seen_by before) step.others t.worker step.apart ∙ lacks.1.course)
        (held_stays t.plan (seen_by before) step.others t.worker step.apart ∙ lacks.1.held))

    pub publish_keeps : names_by t.plan t.worker pass ≡ t.unit.batch
    publish_keeps = behind.1

    -- by the first file behind it that isn't there
    pub taken : (next : Option ℕ) → IsFirstAbsent (there_by t.plan pass) t.unit.fetch (at + 1) next → IsTaken t Exclusive next pass
    taken None absent =
        let o = unit_outline t in
        let there = there_by t.plan pass in
        let empty = is_empty t.unit.batch in
        let course : course_by t.plan t.worker pass ≡ on_course t.number (settled [] empty (rest_of o (place.Reading 0))) None =
        behind.0 ∙ ap (λ s. on_course t.number s None) (fetching o there empty (at + 1) None absent ∙ late o there empty (place.Reading 0) (omega arith)) in
        record {
          at = record { course = course; held = behind.1 };
          all = gathered t.plan (seen_by pass) t.worker t.number t.unit (settled [] empty (rest_of o (place.Reading 0))) None step.of.run course is (reading_late o empty);
        }
    taken (Some later) absent =
        let o = unit_outline t in
        (absent.1, record { course = behind.0 ∙ ap (λ s. on_course t.number s None) (fetching o (there_by t.plan pass) (is_empty t.unit.batch) (at + 1) (Some later) absent); held = behind.1 })
