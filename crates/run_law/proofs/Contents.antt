-- Every complete, quiet, fitting run leaves the repository as the sequential build does.
use Rattle.std.proofs.Common.{◌≡◌, ℕ, zero, suc, ◌<◌, ◌⊎◌, inl, inr, Bool, true, false, ◌&&◌, List, [], ◌∷◌, length, get_or, map, nat_lt, slice_get, Some, None, is_some, unwrap_or, refl, arith, sym, ap, subst, ◌∙◌, if◌then◌else◌}
use Rattle.std.specs.Option.{option_or}
use Rattle.std.specs.FinMap as finite
use Rattle.std.specs.Ordering.{eq_by_cmp, nat_cmp}
use Rattle.std.specs.Cmp.Lexicographic.{nat_list_cmp_total, slice_cmp}
use Rattle.std.proofs.lemmas.Bool.{false≢true}
use Rattle.mvn_shared.specs.Files.{Files, file_at}
use Rattle.goal_types.specs.declared.goal.OwnBytes.{OwnBytes}
use Rattle.build_core.specs.declared.plan.OwnFile.{OwnFile}
use Rattle.build_core.specs.declared.plan.Plan.{Plan}
use Rattle.build_core.specs.declared.plan.PlanModule.{PlanModule}
use Rattle.event_core.specs.declared.entry.RunEntry.{RunEntry}
use Rattle.build_core.specs.declared.ending.State.{State}
use Rattle.run_law.specs.Closed.{had_prefix, outputs_at, state_at}
use Rattle.run_law.proofs.Invariants.{IsFetchFile, IsOwnFile, outs, supply_of}
use Rattle.run_law.specs.Given.{Extends, IsPresent, supply_by}
use Rattle.build_core.specs.OneThread.{Supply, is_built, name_of, one_thread}
use Rattle.scripts.specs.Outlines.{is_listed, module_outline, outline_of}
use Rattle.event_core.specs.Runs.{IsComplete, IsQuiet, IsRunOf, answers_in, contents, standing_of_run}
use Rattle.event_core.specs.SoundPlans.{IsSoundPlan}
use Rattle.event_core.specs.HowFar.{state_of}
use Rattle.event_core.specs.Worlds.{AllFit, HandTold}
use Rattle.run_law.proofs.Carried.{same_name}
use Rattle.run_law.proofs.JudgedRuns.{core_ends}
use Rattle.run_law.proofs.Ended.{lt_is}
use Rattle.run_law.proofs.HandFiles.{hand_left}
use Rattle.run_law.proofs.Left.{left_so}
use Rattle.run_law.proofs.Ready.{all_listed}
use Rattle.run_law.proofs.ClosedFiles.{AreOwnsFit, Core, IsLeft, LeftOnce, is_skipped_state, own_at}
use Rattle.run_law.proofs.Sounds.{sound_fit}
use Rattle.run_law.proofs.Stored.{get_map, none_is}
use Rattle.event_core.proofs.Weights.{nothing_is}
use Rattle.goal_types.specs.declared.goal.GoalAnswer.{GoalAnswer}
use Rattle.build_core.specs.declared.event.Answered.{Answered}

-- ---- searches

-- a name is a file's, or no file's
pub name_or_not : (q : List ℕ) (names : List (List ℕ)) → ((f : ℕ) × (f < length names) × (eq_by_cmp (slice_cmp nat_cmp) q (get_or names f []) ≡ true)) ⊎ ((f : ℕ) → f < length names → eq_by_cmp (slice_cmp nat_cmp) q (get_or names f []) ≡ false)
name_or_not q [] = inr (λ f low. absurd (omega (arith, low)))
name_or_not q (name ∷ names) = by (eq_by_cmp (slice_cmp nat_cmp) q name) refl (name_or_not q names)
  where
    none : eq_by_cmp (slice_cmp nat_cmp) q name ≡ false → ((f : ℕ) → f < length names → eq_by_cmp (slice_cmp nat_cmp) q (get_or names f []) ≡ false) → (f : ℕ) → f < suc (length names) → eq_by_cmp (slice_cmp nat_cmp) q (get_or (name ∷ names) f []) ≡ false
    none e apart zero low = e
    none e apart (suc f) low = apart f (omega (arith, low))

    by : (b : Bool) → eq_by_cmp (slice_cmp nat_cmp) q name ≡ b → ((f : ℕ) × (f < length names) × (eq_by_cmp (slice_cmp nat_cmp) q (get_or names f []) ≡ true)) ⊎ ((f : ℕ) → f < length names → eq_by_cmp (slice_cmp nat_cmp) q (get_or names f []) ≡ false)
        → ((f : ℕ) × (f < suc (length names)) × (eq_by_cmp (slice_cmp nat_cmp) q (get_or (name ∷ names) f []) ≡ true)) ⊎ ((f : ℕ) → f < suc (length names) → eq_by_cmp (slice_cmp nat_cmp) q (get_or (name ∷ names) f []) ≡ false)
    by true e rest = inl (0, omega arith, e)
    by false e (inl found) = let low = found.1 in inl (suc found.0, omega (arith, low), found.2)
    by false e (inr apart) = inr (none e apart)

-- a module passes a test, or none does
pub module_or_not : (p : PlanModule → Bool) (ms : List PlanModule) → ((number : ℕ) × (m : PlanModule) × (slice_get ms number ≡ Some m) × (p m ≡ true)) ⊎ (((number : ℕ) × (m : PlanModule) × (slice_get ms number ≡ Some m) × (p m ≡ true)) → ⊥)
module_or_not p [] = inr (λ x. nothing_is x.1 x.2)
module_or_not p (n ∷ ms) = by (p n) refl (module_or_not p ms)
  where
    none : p n ≡ false → (((number : ℕ) × (m : PlanModule) × (slice_get ms number ≡ Some m) × (p m ≡ true)) → ⊥) → (number : ℕ) (m : PlanModule) → slice_get (n ∷ ms) number ≡ Some m → p m ≡ true → ⊥
    none e apart zero m at is = false≢true (sym e ∙ ap p (ap (λ o. unwrap_or o n) at) ∙ is)
    none e apart (suc number) m at is = apart (number, m, at, is)

    by : (b : Bool) → p n ≡ b → ((number : ℕ) × (m : PlanModule) × (slice_get ms number ≡ Some m) × (p m ≡ true)) ⊎ (((number : ℕ) × (m : PlanModule) × (slice_get ms number ≡ Some m) × (p m ≡ true)) → ⊥)
        → ((number : ℕ) × (m : PlanModule) × (slice_get (n ∷ ms) number ≡ Some m) × (p m ≡ true)) ⊎ (((number : ℕ) × (m : PlanModule) × (slice_get (n ∷ ms) number ≡ Some m) × (p m ≡ true)) → ⊥)
    by true e rest = inl (0, n, refl, e)
    by false e (inl found) = inl (suc found.0, found.1, found.2, found.3)
    by false e (inr apart) = inr (λ x. none e apart x.0 x.1 x.2 x.3)

-- ---- files that stand so are one

module _ (plan : Plan) (supply : Supply) where
  -- a fetched file that one of them has, the other has
  there_too : (s s' : ℕ → State) (o o' : ℕ → List OwnBytes) (a b : Files) → IsLeft plan supply s o a → IsLeft plan supply s' o' b → ((number : ℕ) (m : PlanModule) → slice_get plan.modules number ≡ Some m → s number ≡ s' number)
      → (f : ℕ) → IsFetchFile plan f → is_some (file_at a (name_of plan f)) ≡ true → is_some (file_at b (name_of plan f)) ≡ true
  there_too s s' o o' a b left left' same f fetch is = by (left.reason f fetch is)
    where
      by : (is_some (file_at supply.start (name_of plan f)) ≡ true) ⊎ ((number : ℕ) × (m : PlanModule) × (slice_get plan.modules number ≡ Some m) × (is_skipped_state (s number) ≡ false) × (is_listed f (had_prefix plan supply m.fetch) ≡ true)) → is_some (file_at b (name_of plan f)) ≡ true
      by (inl start) = left'.kept f fetch start
      by (inr r) = left'.had r.0 f r.1 r.2 (sym (ap is_skipped_state (same r.0 r.1 r.2)) ∙ r.3) r.4

  module _ (s s' : ℕ → State) (o o' : ℕ → List OwnBytes) (a b : Files) (left : IsLeft plan supply s o a) (left' : IsLeft plan supply s' o' b)
      (same : (number : ℕ) (m : PlanModule) → slice_get plan.modules number ≡ Some m → (s number ≡ s' number) × (o number ≡ o' number)) where
    -- a fetched file is the same in both
    fetched_once : (f : ℕ) → IsFetchFile plan f → file_at a (name_of plan f) ≡ file_at b (name_of plan f)
    fetched_once f fetch = by (is_some (file_at a (name_of plan f))) refl (is_some (file_at b (name_of plan f))) refl
      where
        by : (x : Bool) → is_some (file_at a (name_of plan f)) ≡ x → (y : Bool) → is_some (file_at b (name_of plan f)) ≡ y → file_at a (name_of plan f) ≡ file_at b (name_of plan f)
        by true x true y = left.bytes f fetch x ∙ sym (left'.bytes f fetch y)
        by false x false y = none_is (file_at a (name_of plan f)) x ∙ sym (none_is (file_at b (name_of plan f)) y)
        by true x false y = absurd (false≢true (sym y ∙ there_too s s' o o' a b left left' (λ number m at. (same number m at).0) f fetch x))
        by false x true y = absurd (false≢true (sym x ∙ there_too s' s o' o b a left' left (λ number m at. sym (same number m at).0) f fetch y))

    -- so is an own file
    own_once : (f : ℕ) → IsOwnFile plan f → file_at a (name_of plan f) ≡ file_at b (name_of plan f)
    own_once f own =
        let alike = same own.0 own.1 own.2 in
        left.own own.0 f own.1 own.2 own.3
        ∙ ap (λ x. option_or (if is_built x && own.1.installs then own_at own.1 (o own.0) f else None) (file_at supply.start (name_of plan f))) alike.0
        ∙ ap (λ x. option_or (if is_built (s' own.0) && own.1.installs then own_at own.1 x f else None) (file_at supply.start (name_of plan f))) alike.1
        ∙ sym (left'.own own.0 f own.1 own.2 own.3)

    -- so is each file of the plan
    file_once : (f : ℕ) → f < length plan.files → file_at a (name_of plan f) ≡ file_at b (name_of plan f)
    file_once f low = by (module_or_not (λ m. is_listed f m.fetch) plan.modules) (module_or_not (λ m. is_listed f (map (λ (x : OwnFile). x.file) m.own)) plan.modules)
      where
        by : (IsFetchFile plan f) ⊎ (IsFetchFile plan f → ⊥) → (IsOwnFile plan f) ⊎ (IsOwnFile plan f → ⊥) → file_at a (name_of plan f) ≡ file_at b (name_of plan f)
        by (inl fetch) any = fetched_once f fetch
        by (inr unfetched) (inl own) = own_once f own
        by (inr unfetched) (inr unowned) = left.neither f low unfetched unowned ∙ sym (left'.neither f low unfetched unowned)

    -- so is each name
    name_once : (q : List ℕ) → file_at a q ≡ file_at b q
    name_once q = by (name_or_not q plan.files)
      where
        by : ((f : ℕ) × (f < length plan.files) × (eq_by_cmp (slice_cmp nat_cmp) q (name_of plan f) ≡ true)) ⊎ ((f : ℕ) → f < length plan.files → eq_by_cmp (slice_cmp nat_cmp) q (name_of plan f) ≡ false) → file_at a q ≡ file_at b q
        by (inl x) = subst (λ n. file_at a n ≡ file_at b n) (sym (same_name q (name_of plan x.0) x.2)) (file_once x.0 x.1)
        by (inr apart) = left.other q apart ∙ sym (left'.other q apart)

-- so both are the same map
pub left_once : LeftOnce
left_once plan supply s s' o o' a b left left' same = finite.same_map nat_list_cmp_total (finite.slice_cmp-IsAntisymmetric finite.nat_cmp-IsAntisymmetric) a b (name_once plan supply s s' o o' a b left left' same)

-- how files stand doesn't depend on answers
pub left_by : (plan : Plan) (start remote : Files) (kept : List Answered) (said : ℕ → ℕ → GoalAnswer) (s : ℕ → State) (o : ℕ → List OwnBytes) (files : Files) → IsLeft plan (supply_of start remote kept) s o files → IsLeft plan (supply_by start remote said) s o files
left_by plan start remote kept said s o files left = record { other = left.other; neither = left.neither; bytes = left.bytes; had = left.had; reason = left.reason; kept = left.kept; own = left.own }

-- the files behind a complete, quiet, fitting run
pub core : Core
core plan start remote fit present owns hands tell entries run fits complete quiet said extends =
    let supply = supply_by start remote said in
    left_once plan supply (λ number. state_of (outline_of plan) (standing_of_run plan entries).progress number) (state_at (one_thread plan supply)) (outs plan (answers_in plan entries)) (outputs_at (one_thread plan supply)) (contents plan start entries) (one_thread plan supply).files
    (left_by plan start remote (answers_in plan entries) said (λ number. state_of (outline_of plan) (standing_of_run plan entries).progress number) (outs plan (answers_in plan entries)) (contents plan start entries) (left_so plan start remote fit present owns hands tell entries run fits complete quiet))
    (hand_left plan supply fit owns) (core_ends plan start remote fit present hands tell entries run fits complete quiet said extends)

-- and a sound plan is as it asks
pub sound_owns : (plan : Plan) → IsSoundPlan plan → AreOwnsFit plan
sound_owns plan sound = record {
  owner = λ f a b m n at here mine own. sound.one_owner f a b m n at here mine own;
  distinct = λ number m at. (sound.modules number m at).own_files;
  low = λ f x.
      let places = sound.places x.0 (module_outline x.1) (get_map module_outline plan.modules x.0 x.1 x.2) in
      let low = lt_is f (length plan.present) (all_listed (λ y. nat_lt y (length plan.present)) (module_outline x.1).own places.own f x.3) in
      let sized = sound.present in omega (arith, low, sized);
  fetched = λ f x.
      let places = sound.places x.0 (module_outline x.1) (get_map module_outline plan.modules x.0 x.1 x.2) in
      let low = lt_is f (length plan.present) (all_listed (λ y. nat_lt y (length plan.present)) x.1.fetch places.fetch f x.3) in
      let sized = sound.present in omega (arith, low, sized);
}

-- so of a sound plan: a complete, quiet run of hands that tell all leaves the repository as the sequential build does
pub core_sound : (plan : Plan) (start remote : Files) → IsSoundPlan plan → IsPresent plan start → (hands : ℕ → HandTold) → ((w : ℕ) → ((hands w).area ≡ true) × ((hands w).remote ≡ Some remote)) → (entries : List RunEntry)
    → IsRunOf plan entries → AllFit plan (Some start) hands [] entries → IsComplete plan entries → IsQuiet entries → (said : ℕ → ℕ → GoalAnswer) → Extends (answers_in plan entries) said
    → contents plan start entries ≡ (one_thread plan (supply_by start remote said)).files
core_sound plan start remote sound present hands tell entries run fits complete quiet = core plan start remote (sound_fit plan sound) present (sound_owns plan sound) hands tell entries run fits complete quiet
