-- A module of a plan is sound.
use Rattle.std.proofs.Common.{◌≡◌, ◌⊎◌, inl, inr, ◌<◌, ℕ, Bool, true, false, List, [], ◌∷◌, ◌++◌, filter, fold, length, map, nat_eq, nat_lt, Option, Some, None, is_some, unwrap_or, refl, sym, ap, subst, if◌then◌else◌}
use Rattle.std.specs.List.{IsDistinct}
use Rattle.std.proofs.lemmas.Bool.{false≢true}
use Rattle.mvn_base.specs.Gav.{gav_eq, lock_name}
use Rattle.mvn_base.specs.declared.phase.Phase.{Phase}
use Rattle.goal_types.specs.declared.goal.Slot.{Slot}
use Rattle.goal_types.specs.declared.goal.Slot.TheVariants as slots
use Rattle.model_types.specs.declared.model.Model.{Model}
use Rattle.classpaths.specs.Classpaths.{artifact_file, is_on, pom_file}
use Rattle.classpaths.specs.declared.classpath.Kind.TheVariants as kinds
use Rattle.classpaths.specs.declared.resolution.Resolved.{Resolved}
use Rattle.build_core.specs.Slots.{slot_number}
use Rattle.build_core.specs.declared.plan.Entry.{Entry}
use Rattle.build_core.specs.declared.plan.Origin.{Origin}
use Rattle.build_core.specs.declared.plan.Origin.TheVariants as origin
use Rattle.build_core.specs.declared.plan.OwnFile.{OwnFile}
use Rattle.build_core.specs.declared.plan.PlanModule.{PlanModule}
use Rattle.scripts.specs.Climbing.{Climbs}
use Rattle.scripts.specs.Outlines.{file_of, files_of as entry_files, files_read, is_listed, once_more}
use Rattle.event_core.specs.Sound.{are_below}
use Rattle.event_core.specs.SoundPlans.{IsSoundPlanModule, is_backed, pom_first}
use Rattle.module_plan.specs.Numbers.{fetch_locks, fetch_names, number_of, numbers_of, own_names, plan_files, plan_names}
use Rattle.module_plan.specs.Outputs.{attached, has_main, main_output, output, outputs}
use Rattle.module_plan.specs.Plans.{entries_of, entry_of, kept_output, module_of, origin_of, own_file}
use Rattle.module_plan.specs.Uses.{calls, fetched_files, fetched_locks, gavs, is_selected, module_at, slot_of, used, used_by}
use Rattle.module_plan.specs.declared.selected.Output.{Output}
use Rattle.module_plan.specs.declared.selected.SelectedModule.{SelectedModule}
use Rattle.plan_law.specs.Ready.{IsPlaced}
use Rattle.plan_law.proofs.FileNames.{artifact_in, in_fetched, name_of, outputs_apart, used_in}
use Rattle.plan_law.proofs.Gavs.{gav_decides}
use Rattle.plan_law.proofs.Goals.{goals_are_calls}
use Rattle.plan_law.proofs.Keys.{places_climb}
use Rattle.plan_law.proofs.Members.{IsIn, all_pass, apart_map, at_map, each_passes, from_filter, from_filter_map, from_map, in_either, in_to, listed_in, numbers_apart, passing}
use Rattle.plan_law.proofs.Numbered.{all_below, fetch_apart, fetch_file, fetch_lock, name_listed, names_climb, number_below, own_lock, own_name, same_number}
use Rattle.plan_law.proofs.Places.{place_at}
use Rattle.plan_law.proofs.Texts.{ascending_climb}

-- a module of the plan of these
abbrev pub planned : Phase → List SelectedModule → SelectedModule → PlanModule
planned phase modules m = module_of phase (gavs modules) (plan_names phase modules) (plan_files phase modules) m

own_numbers : (files : List (List ℕ)) (outs : List Output) → map (λ (o : OwnFile). o.file) (map (own_file files) outs) ≡ map (number_of files) (map name_of outs)
own_numbers files [] = refl
own_numbers files (o ∷ outs) = ap (λ l. number_of files o.name ∷ l) (own_numbers files outs)

-- its files are of different slots
slots_apart : (files : List (List ℕ)) (m : Model) → IsDistinct nat_eq (map (λ (o : OwnFile). slot_number o.slot) (map (own_file files) (outputs m)))
unfolding outputs IsDistinct
slots_apart files m = by (has_main m)
  where
    by : (b : Bool) → IsDistinct nat_eq (map (λ (o : OwnFile). slot_number o.slot) (map (own_file files) (output slots.Pom (pom_file m.gav) ∷ (if b then main_output m ∷ attached m.gav else attached m.gav))))
    by true = ((refl, (refl, (refl, (refl, tt)))), ((refl, (refl, (refl, tt))), ((refl, (refl, tt)), ((refl, tt), (tt, tt)))))
    by false = ((refl, (refl, (refl, tt))), ((refl, (refl, tt)), ((refl, tt), (tt, tt))))

first_is_pom : (files : List (List ℕ)) (m : Model) → pom_first (map (own_file files) (outputs m)) ≡ true
unfolding outputs
first_is_pom files m = refl

-- where no goal runs nothing is used
nothing_used : (phase : Phase) (m : SelectedModule) → calls phase m ≡ [] → used phase m ≡ []
nothing_used phase m none = ap (λ c. used_by c m.resolution.winners) none

module _ (phase : Phase) (modules : List SelectedModule) (m : SelectedModule) (there : IsIn modules m) where
  -- ---- its own files

  own_apart : IsDistinct nat_eq (map (λ (o : OwnFile). o.file) (map (own_file (plan_files phase modules)) (outputs m.model)))
  own_apart = subst (λ l. IsDistinct nat_eq l) (sym (own_numbers (plan_files phase modules) (outputs m.model)))
      (numbers_apart (map (number_of (plan_files phase modules)) (own_names m))
      (apart_map (number_of (plan_files phase modules)) (own_names m)
      (λ x y a b. same_number (plan_files phase modules) x y (own_name phase modules m there x a) (own_name phase modules m there y b)) (outputs_apart m.model)))

  pub own_below : are_below (length (plan_files phase modules)) (map (λ (o : OwnFile). o.file) (map (own_file (plan_files phase modules)) (outputs m.model))) ≡ true
  own_below = subst (λ l. are_below (length (plan_files phase modules)) l ≡ true) (sym (own_numbers (plan_files phase modules) (outputs m.model)))
      (all_below (plan_files phase modules) (own_names m) (own_name phase modules m there))

  pub own_lock_below : number_of (plan_names phase modules) (lock_name m.model.gav) < length (plan_names phase modules)
  own_lock_below = number_below (plan_names phase modules) (lock_name m.model.gav) (own_lock phase modules m there)

  -- ---- its fetch list and its batch

  fetches_apart : IsDistinct nat_eq (numbers_of (plan_files phase modules) (fetch_names phase (gavs modules) m))
  fetches_apart = numbers_apart (numbers_of (plan_files phase modules) (fetch_names phase (gavs modules) m))
      (apart_map (number_of (plan_files phase modules)) (fetch_names phase (gavs modules) m)
      (λ x y a b. same_number (plan_files phase modules) x y (fetch_file phase modules m there x a) (fetch_file phase modules m there y b)) (fetch_apart phase (gavs modules) m))

  pub fetch_below : are_below (length (plan_files phase modules)) (numbers_of (plan_files phase modules) (fetch_names phase (gavs modules) m)) ≡ true
  fetch_below = all_below (plan_files phase modules) (fetch_names phase (gavs modules) m) (fetch_file phase modules m there)

  locks_inside : (l : List ℕ) → IsIn (fetch_locks phase (gavs modules) m) l → IsIn (plan_names phase modules) l
  locks_inside l h = fetch_lock phase modules m there l h

  pub batch_climbs : Climbs 0 (numbers_of (plan_names phase modules) (fetch_locks phase (gavs modules) m))
  batch_climbs = places_climb (plan_names phase modules) (fetch_locks phase (gavs modules) m) (names_climb phase modules) (ascending_climb (fetched_locks (gavs modules) (used phase m))) locks_inside

  pub batch_below : are_below (length (plan_names phase modules)) (numbers_of (plan_names phase modules) (fetch_locks phase (gavs modules) m)) ≡ true
  batch_below = all_below (plan_names phase modules) (fetch_locks phase (gavs modules) m) locks_inside

  -- ---- its entries

  module _ (place : ℕ) (placed : IsPlaced modules place m) where
    -- a dependency that is built is an upstream
    upstream_listed : (w : Resolved) → IsIn (used phase m) w → is_selected (gavs modules) w.gav ≡ true → is_listed (module_at (gavs modules) w.gav) m.upstream ≡ true
    upstream_listed w inside is =
        let found = passing (gav_eq w.gav) (gavs modules) is in
        let same = (gav_decides w.gav found.0).0 found.2 in
        let at = place_at gav_eq gav_decides (gavs modules) w.gav (subst (λ g. IsIn (gavs modules) g) (sym same) found.1) in
        let other = at_map (λ (m : SelectedModule). m.model.gav) modules (module_at (gavs modules) w.gav) w.gav at in
        placed.firm w (module_at (gavs modules) w.gav) other.0 (in_to m.resolution.winners w (used_in (calls phase m) m.resolution.winners w inside).0) other.1 other.2

    origin_backed : (w : Resolved) → IsIn (used phase m) w → is_backed (planned phase modules m) (origin_of (gavs modules) (plan_files phase modules) w) ≡ true
    unfolding module_of
    origin_backed w inside = by (is_selected (gavs modules) w.gav) refl
      where
        kept : (o : Option Slot) → is_selected (gavs modules) w.gav ≡ true → is_backed (planned phase modules m) (kept_output (module_at (gavs modules) w.gav) o) ≡ true
        kept None e = refl
        kept (Some slot) e = upstream_listed w inside e

        by : (b : Bool) → is_selected (gavs modules) w.gav ≡ b
            → is_backed (planned phase modules m) (if b then kept_output (module_at (gavs modules) w.gav) (slot_of w) else origin.File (number_of (plan_files phase modules) (artifact_file w))) ≡ true
        by true e = kept (slot_of w) e
        by false e = name_listed (plan_files phase modules) (fetch_names phase (gavs modules) m) (artifact_file w)
            (in_fetched (gavs modules) (used phase m) w (artifact_file w) inside (artifact_in (gavs modules) w e))

    each_backed : (e : Entry) → IsIn (entries_of (gavs modules) (plan_files phase modules) (used phase m)) e → is_backed (planned phase modules m) e.origin ≡ true
    each_backed e h =
        let found = from_map (entry_of (gavs modules) (plan_files phase modules)) (filter (is_on kinds.Test) (used phase m)) e h in
        let inside = (from_filter (is_on kinds.Test) (used phase m) found.0 found.1).0 in
        subst (λ (e : Entry). is_backed (planned phase modules m) e.origin ≡ true) found.2 (origin_backed found.0 inside)

    -- ---- the whole

    pub sound_module : IsSoundPlanModule (planned phase modules m)
    unfolding module_of
    sound_module = record {
      upstream = placed.ascending;
      fetch = fetches_apart;
      own_files = own_apart;
      own_slots = slots_apart (plan_files phase modules) m.model;
      pom = first_is_pom (plan_files phase modules) m.model;
      entries = all_pass (λ (e : Entry). is_backed (planned phase modules m) e.origin) (entries_of (gavs modules) (plan_files phase modules) (used phase m)) each_backed;
      goals = goals_are_calls phase m.model.packaging m.model.build.base.plugins;
      idle = λ none. (ap (λ w. numbers_of (plan_files phase modules) (fetched_files (gavs modules) w)) (nothing_used phase m none), ap (λ w. entries_of (gavs modules) (plan_files phase modules) w) (nothing_used phase m none));
    }

-- ---- the files that are read are among those that are fetched

from_once : (met xs : List ℕ) (y : ℕ) → IsIn (fold once_more met xs) y → IsIn met y ⊎ IsIn xs y
from_once met [] y there = inl there
from_once met (x ∷ xs) y there = by (from_once (once_more met x) xs y there)
  where
    pushed : IsIn met y ⊎ IsIn (x ∷ []) y → IsIn met y ⊎ IsIn (x ∷ xs) y
    pushed (inl a) = inl a
    pushed (inr (inl e)) = inr (inl e)
    pushed (inr (inr none)) = absurd none

    old : (b : Bool) → IsIn (if b then met else met ++ x ∷ []) y → IsIn met y ⊎ IsIn (x ∷ xs) y
    old true h = inl h
    old false h = pushed (in_either met (x ∷ []) y h)

    by : IsIn (once_more met x) y ⊎ IsIn xs y → IsIn met y ⊎ IsIn (x ∷ xs) y
    by (inl h) = old (is_listed x met) h
    by (inr h) = inr (inr h)

backed_file : (m : PlanModule) (o : Origin) (file : ℕ) → is_backed m o ≡ true → file_of o ≡ Some file → is_listed file m.fetch ≡ true
backed_file m (origin.File f) file is e = subst (λ k. is_listed k m.fetch ≡ true) (ap (λ o. unwrap_or o f) e) is
backed_file m (origin.Module u s) file is e = absurd (false≢true (ap is_some e))
backed_file m origin.Nothing file is e = absurd (false≢true (ap is_some e))

-- of a sound module
pub reads_below : (m : PlanModule) (n : ℕ) → IsSoundPlanModule m → are_below n m.fetch ≡ true → are_below n (files_read m) ≡ true
reads_below m n sound below = all_pass (λ x. nat_lt x n) (files_read m) each
  where
    among : (file : ℕ) → IsIn [] file ⊎ IsIn (entry_files m.entries) file → nat_lt file n ≡ true
    among file (inl none) = absurd none
    among file (inr h) =
        let found = from_filter_map (λ (e : Entry). file_of e.origin) m.entries file h in
        let backed = each_passes (λ (e : Entry). is_backed m e.origin) m.entries sound.entries found.0 found.1 in
        each_passes (λ x. nat_lt x n) m.fetch below file (listed_in file m.fetch (backed_file m found.0.origin file backed found.2))

    each : (file : ℕ) → IsIn (files_read m) file → nat_lt file n ≡ true
    each file there = among file (from_once [] (entry_files m.entries) file there)
