-- The law on a worked run: its premises can be met.
use Rattle.std.proofs.Common.{◌≡◌, ℕ, zero, suc, Bool, true, false, List, [], ◌∷◌, slice_get, Some, None, is_some, unwrap_or, refl, arith, sym, ap, subst}
use Rattle.std.specs.List.{IsDistinct}
use Rattle.std.specs.FinMap as finite
use Rattle.std.proofs.lemmas.Bool.{false≢true}
use Rattle.mvn_shared.specs.Files.{Files, file_at}
use Rattle.goal_types.specs.declared.goal.GoalCall.{GoalCall}
use Rattle.scripts.specs.declared.outline.ModuleOutline.{ModuleOutline}
use Rattle.mvn_base.specs.declared.gav.Gav.{Gav}
use Rattle.build_core.specs.declared.plan.PlanModule.{PlanModule}
use Rattle.event_core.specs.Enabled.{Enabled}
use Rattle.run_law.proofs.Invariants.{supply_of}
use Rattle.run_law.specs.Given.{IsPresent}
use Rattle.build_core.specs.OneThread.{answer_at, one_thread}
use Rattle.scripts.specs.Outlines.{is_listed, module_outline, outline_of}
use Rattle.event_core.specs.RunExamples.{built, complete, jar, plan, quiet}
use Rattle.event_core.specs.Runs.{IsRunOf, answers_in}
use Rattle.event_core.specs.Sound.{IsSoundModule}
use Rattle.event_core.specs.SoundPlans.{IsSoundPlan, IsSoundPlanModule}
use Rattle.event_core.specs.Standing.{after}
use Rattle.event_core.specs.Worlds.{AllFit, HandTold}
use Rattle.run_law.proofs.Contents.{core_sound}
use Rattle.event_core.proofs.Weights.{nothing_is}
use Rattle.run_law.proofs.Extending.{extends_itself}

abbrev is_none_call : List GoalCall → Bool
is_none_call [] = false
is_none_call (c ∷ calls) = true

module _ (gav : Gav) where
  -- the one module of the plan
  one_module : (P : ℕ → PlanModule → Type 0) → P 0 (jar gav) → (number : ℕ) (m : PlanModule) → slice_get (plan gav).modules number ≡ Some m → P number m
  one_module P here zero m at = subst (P 0) (ap (λ o. unwrap_or o (jar gav)) at) here
  one_module P here (suc number) m at = absurd (nothing_is m at)

  -- what holds of the one outline
  one_outline : (P : ℕ → ModuleOutline → Type 0) → P 0 (module_outline (jar gav)) → (number : ℕ) (m : ModuleOutline) → slice_get (outline_of (plan gav)).modules number ≡ Some m → P number m
  one_outline P here zero m at = subst (P 0) (ap (λ o. unwrap_or o (module_outline (jar gav))) at) here
  one_outline P here (suc number) m at = absurd (nothing_is m at)

  -- the plan is sound
  sound : IsSoundPlan (plan gav)
  unfolding IsDistinct
  sound = record {
    places = one_outline (λ number m. IsSoundModule (outline_of (plan gav)) number m) (record { upstream = refl; batch = tt; names = refl; fetch = refl; reads = refl; own = refl; own_name = omega arith });
    workers = (omega arith, omega arith);
    names = tt;
    files = ((refl, tt), (tt, tt));
    present = refl;
    modules = one_module (λ number m. IsSoundPlanModule m) (record { upstream = tt; fetch = tt; own_files = ((refl, tt), (tt, tt)); own_slots = ((refl, tt), (tt, tt)); pom = refl; entries = refl; goals = refl; idle = λ none. absurd (false≢true (sym (ap is_none_call none))) });
    cover = λ file. (0, one_module (λ number m. is_listed file m.fetch ≡ true → is_listed 0 m.batch ≡ true) (λ l. absurd (false≢true l)));
    not_fetched = λ file a b m n at here own. one_module (λ number n. is_listed file n.fetch ≡ false) refl b n here;
    one_owner = λ file a b m n at here own own'. one_module (λ a m. a ≡ b) (one_module (λ b n. 0 ≡ b) refl b n here) a m at;
    events = omega arith;
  }

  -- the run may go so
  run : IsRunOf (plan gav) (built gav)
  unfolding Enabled after
  run = ((omega arith, omega arith, refl, refl, refl), ((omega arith, refl, refl), ((omega arith, omega arith, refl, refl, refl), ((omega arith, omega arith, refl), ((omega arith, omega arith, refl), ((omega arith, omega arith, refl), ((omega arith, refl, refl, refl), tt)))))))

  module _ (start remote : Files) (pom : file_at start (65 ∷ []) ≡ None) (main : file_at start (66 ∷ []) ≡ None) where
    abbrev hands : ℕ → HandTold
    hands w = record { remote = Some remote; area = true; gate = None }

    -- nothing is there at the start
    present : IsPresent (plan gav) start
    present zero low = sym (ap is_some pom)
    present (suc zero) low = sym (ap is_some main)
    present (suc (suc f)) low = absurd (omega (arith, low))

    -- each entry fits
    fits : AllFit (plan gav) (Some start) hands [] (built gav)
    unfolding after
    fits = ((refl, tt), ((refl, (refl, refl, tt)), ((refl, (refl, refl, refl)), ((refl, ((refl, refl, refl), refl)), ((refl, ((refl, refl, refl), refl)), ((refl, tt), ((refl, (refl, refl, refl, refl)), tt)))))))

    -- the sequential build puts the two files
    sequential : (one_thread (plan gav) (supply_of start remote (answers_in (plan gav) (built gav)))).files ≡ finite.insert (finite.insert start (65 ∷ []) (1 ∷ [])) (66 ∷ []) (7 ∷ [])
    sequential = sym (core_sound (plan gav) start remote sound present hands (λ w. (refl, refl)) (built gav) run fits (complete gav) (quiet gav) (answer_at (answers_in (plan gav) (built gav))) (extends_itself (answers_in (plan gav) (built gav))))
