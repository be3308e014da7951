-- A plan that is sound: three modules and two workers. The third has the first upstream; all three fetch one file, under one name. Its
-- parameters: whether that file is there at the start, and the bytes that the first module may keep.
use Rattle.std.specs.Prelude.{◌≡◌, ℕ, zero, suc, Bool, true, false, List, [], ◌∷◌, slice_get, Option, Some, None, is_some, unwrap_or, length, nat_eq, nat_lt}
use Rattle.std.specs.List.{IsDistinct}
use Rattle.std.proofs.Common.{◌⊎◌, inl, inr, refl, sym, ap, subst, arith, ◌∙◌}
use Rattle.std.proofs.lemmas.Bool.{eqb-true, false≢true}
use Rattle.mvn_base.specs.declared.phase.Phase.TheVariants.{Package}
use Rattle.goal_types.specs.declared.goal.GoalCall.{GoalCall}
use Rattle.goal_types.specs.declared.goal.Need.TheVariants as need
use Rattle.goal_types.specs.declared.goal.Slot.TheVariants as slot
use Rattle.build_core.specs.declared.plan.Origin.TheVariants as origin
use Rattle.build_core.specs.declared.plan.Entry.{Entry}
use Rattle.build_core.specs.declared.plan.Plan.{Plan}
use Rattle.build_core.specs.declared.plan.PlanModule.{PlanModule}
use Rattle.scripts.specs.Outlines.{is_listed, module_outline, outline_of}
use Rattle.event_core.specs.Sound.{IsSound, IsSoundModule}
use Rattle.event_core.specs.SoundPlans.{IsSoundPlan, IsSoundPlanModule, is_own}

abbrev pub call : GoalCall
call = record { group = []; artifact = []; version = []; goal = []; execution = []; phase = Package; configuration = []; slot = slot.Main; need = need.Compile }

abbrev pub from_file : Entry
from_file = record { name = 65 ∷ []; compile = true; runtime = true; test = true; origin = origin.File 0 }

abbrev pub from_lib : Entry
from_lib = record { name = 80 ∷ []; compile = true; runtime = true; test = true; origin = origin.Module 0 slot.Main }

abbrev pub lib : ℕ → PlanModule
lib budget = record {
  gav = record { group = 103 ∷ []; artifact = 80 ∷ []; version = 49 ∷ [] };
  upstream = [];
  batch = 0 ∷ [];
  fetch = 0 ∷ [];
  own_name = 1;
  own = (record { slot = slot.Pom; file = 1 }) ∷ (record { slot = slot.Main; file = 2 }) ∷ [];
  pom = 1 ∷ [];
  goals = call ∷ [];
  sources = [];
  entries = from_file ∷ [];
  budget = budget;
  installs = true;
  needs_artifact = true;
}

-- isn't installed
abbrev pub tool : PlanModule
tool = record {
  gav = record { group = 103 ∷ []; artifact = 81 ∷ []; version = 49 ∷ [] };
  upstream = [];
  batch = 0 ∷ [];
  fetch = 0 ∷ [];
  own_name = 2;
  own = (record { slot = slot.Pom; file = 3 }) ∷ [];
  pom = 2 ∷ [];
  goals = call ∷ [];
  sources = [];
  entries = from_file ∷ [];
  budget = 100;
  installs = false;
  needs_artifact = false;
}

abbrev pub app : PlanModule
app = record {
  gav = record { group = 103 ∷ []; artifact = 82 ∷ []; version = 49 ∷ [] };
  upstream = 0 ∷ [];
  batch = 0 ∷ [];
  fetch = 0 ∷ [];
  own_name = 3;
  own = (record { slot = slot.Pom; file = 4 }) ∷ (record { slot = slot.Main; file = 5 }) ∷ [];
  pom = 3 ∷ [];
  goals = call ∷ [];
  sources = [];
  entries = from_file ∷ from_lib ∷ [];
  budget = 100;
  installs = true;
  needs_artifact = true;
}

abbrev pub plan : Bool → ℕ → Plan
plan there budget = record {
  modules = lib budget ∷ tool ∷ app ∷ [];
  names = (60 ∷ []) ∷ (61 ∷ []) ∷ (62 ∷ []) ∷ (63 ∷ []) ∷ [];
  files = (65 ∷ []) ∷ (66 ∷ []) ∷ (67 ∷ []) ∷ (68 ∷ []) ∷ (69 ∷ []) ∷ (70 ∷ []) ∷ [];
  present = there ∷ false ∷ false ∷ false ∷ false ∷ false ∷ [];
  workers = 2;
  events = 49;
}

-- ---- it is sound

nothing : {X : Type 0} (x : X) → ◌≡◌ {A = Option X} None (Some x) → ⊥
nothing x e = false≢true (ap is_some e)

-- what holds of each of the three
each : (budget : ℕ) (P : ℕ → PlanModule → Type 0) → P 0 (lib budget) → P 1 tool → P 2 app → (number : ℕ) (m : PlanModule) → slice_get (lib budget ∷ tool ∷ app ∷ []) number ≡ Some m → P number m
each budget P a b c zero m at = subst (P 0) (ap (λ o. unwrap_or o (lib budget)) at) a
each budget P a b c (suc zero) m at = subst (P 1) (ap (λ o. unwrap_or o tool) at) b
each budget P a b c (suc (suc zero)) m at = subst (P 2) (ap (λ o. unwrap_or o app) at) c
each budget P a b c (suc (suc (suc n))) m at = absurd (nothing m at)

two : (file a b : ℕ) → is_listed file (a ∷ b ∷ []) ≡ true → (file ≡ a) ⊎ (file ≡ b)
two file a b is = by (nat_eq a file) refl (nat_eq b file) refl
  where
    by : (x : Bool) → nat_eq a file ≡ x → (y : Bool) → nat_eq b file ≡ y → (file ≡ a) ⊎ (file ≡ b)
    by true e y f = inl (sym (eqb-true a file e))
    by false e true f = inr (sym (eqb-true b file f))
    by false e false f = absurd (false≢true (sym (rw e (rw f refl)) ∙ is))

one : (file a : ℕ) → is_listed file (a ∷ []) ≡ true → file ≡ a
one file a is = by (nat_eq a file) refl
  where
    by : (x : Bool) → nat_eq a file ≡ x → file ≡ a
    by true e = sym (eqb-true a file e)
    by false e = absurd (false≢true (sym (rw e refl) ∙ is))

module _ (there : Bool) (budget : ℕ) where
  abbrev modules : List PlanModule
  modules = lib budget ∷ tool ∷ app ∷ []

  places : IsSound (outline_of (plan there budget))
  places zero m at = subst (IsSoundModule (outline_of (plan there budget)) 0) (ap (λ o. unwrap_or o (module_outline (lib budget))) at)
      (record { upstream = refl; batch = (omega arith, tt); names = refl; fetch = refl; reads = refl; own = refl; own_name = omega arith })
  places (suc zero) m at = subst (IsSoundModule (outline_of (plan there budget)) 1) (ap (λ o. unwrap_or o (module_outline tool)) at)
      (record { upstream = refl; batch = (omega arith, tt); names = refl; fetch = refl; reads = refl; own = refl; own_name = omega arith })
  places (suc (suc zero)) m at = subst (IsSoundModule (outline_of (plan there budget)) 2) (ap (λ o. unwrap_or o (module_outline app)) at)
      (record { upstream = refl; batch = (omega arith, tt); names = refl; fetch = refl; reads = refl; own = refl; own_name = omega arith })
  places (suc (suc (suc n))) m at = absurd (nothing m at)

  no_zero : (number : ℕ) (m : PlanModule) → slice_get modules number ≡ Some m → is_own 0 m ≡ false
  no_zero = each budget (λ number m. is_own 0 m ≡ false) refl refl refl

  not_fetched : (file a b : ℕ) (m n : PlanModule) → slice_get modules a ≡ Some m → slice_get modules b ≡ Some n → is_own file m ≡ true → is_listed file n.fetch ≡ false
  not_fetched file a b m n at by own = none (is_listed file n.fetch) refl
    where
      none : (found : Bool) → is_listed file n.fetch ≡ found → found ≡ false
      none false e = refl
      none true e = absurd (false≢true (sym (no_zero a m at) ∙ subst (λ f. is_own f m ≡ true) (each budget (λ number n. is_listed file n.fetch ≡ true → file ≡ 0) (one file 0) (one file 0) (one file 0) b n by e) own))

  abbrev owner : ℕ → ℕ
  owner zero = 0
  owner (suc zero) = 0
  owner (suc (suc zero)) = 0
  owner (suc (suc (suc zero))) = 1
  owner (suc (suc (suc (suc f)))) = 2

  owner_is : (number file a b : ℕ) → number ≡ owner a → number ≡ owner b → (file ≡ a) ⊎ (file ≡ b) → number ≡ owner file
  owner_is number file a b p q (inl e) = p ∙ ap owner (sym e)
  owner_is number file a b p q (inr e) = q ∙ ap owner (sym e)

  owned : (file : ℕ) (number : ℕ) (m : PlanModule) → slice_get modules number ≡ Some m → is_own file m ≡ true → number ≡ owner file
  owned file = each budget (λ number m. is_own file m ≡ true → number ≡ owner file)
      (λ is. owner_is 0 file 1 2 refl refl (two file 1 2 is)) (λ is. ap owner (sym (one file 3 is))) (λ is. owner_is 2 file 4 5 refl refl (two file 4 5 is))

  pub sound : IsSoundPlan (plan there budget)
  unfolding IsDistinct
  sound = record {
    places = places;
    workers = (omega arith, omega arith);
    names = (refl, (refl, (refl, tt)));
    files = ((refl, (refl, (refl, (refl, (refl, tt))))), ((refl, (refl, (refl, (refl, tt)))), ((refl, (refl, (refl, tt))), ((refl, (refl, tt)), ((refl, tt), (tt, tt))))));
    present = refl;
    modules = each budget (λ number m. IsSoundPlanModule m)
        (record { upstream = tt; fetch = (tt, tt); own_files = ((refl, tt), (tt, tt)); own_slots = ((refl, tt), (tt, tt)); pom = refl; entries = refl; goals = refl; idle = λ none. absurd (goals_is none) })
        (record { upstream = tt; fetch = (tt, tt); own_files = (tt, tt); own_slots = (tt, tt); pom = refl; entries = refl; goals = refl; idle = λ none. absurd (goals_is none) })
        (record { upstream = (omega arith, tt); fetch = (tt, tt); own_files = ((refl, tt), (tt, tt)); own_slots = ((refl, tt), (tt, tt)); pom = refl; entries = refl; goals = refl; idle = λ none. absurd (goals_is none) });
    cover = λ file. (0, each budget (λ number m. is_listed file m.fetch ≡ true → is_listed 0 m.batch ≡ true) (λ is. refl) (λ is. refl) (λ is. refl));
    not_fetched = not_fetched;
    one_owner = λ file a b m n at by own two. owned file a m at own ∙ sym (owned file b n by two);
    events = omega arith;
  }
    where
      goals_is : ◌≡◌ {A = List GoalCall} (call ∷ []) [] → ⊥
      goals_is e = false≢true (sym (ap (λ (xs : List GoalCall). nat_lt 0 (length xs)) e))
