-- The law's premises hold together on the sample plan, and its run ends as in the sequential build; so does what a fault didn't touch.
use Rattle.std.proofs.Common.{◌≡◌, ℕ, zero, suc, Bool, true, false, nat_eq, ◌||◌, List, [], ◌∷◌, Some, None, is_some, refl, arith, sym, ap, subst}
use Rattle.std.proofs.lemmas.Bool.{eqb-true, false≢true}
use Rattle.mvn_shared.specs.Files.{Files, file_at}
use Rattle.build_core.specs.declared.ending.Ending.TheVariants as ending
use Rattle.build_core.specs.declared.ending.State.TheVariants.{Ended}
use Rattle.build_core.specs.OneThread.{answer_at}
use Rattle.event_core.specs.Runs.{IsQuiet, answers_in}
use Rattle.event_core.specs.Standing.{after}
use Rattle.run_law.specs.Closed.{state_at}
use Rattle.run_law.specs.Given.{Given, IsFitting, IsPresent, IsUntouched, IsWhole, is_fault, sequential, state_after, untouched}
use Rattle.run_law.specs.SamplePlan.{plan, sound}
use Rattle.run_law.proofs.Extending.{extends_itself}
use Rattle.run_law.proofs.Laws.{same_states, untouched_state}
use Rattle.run_law.proofs.PlanRuns.{faulty, faulty_ends, faulty_fits, faulty_runs, whole, whole_ends, whole_fits, whole_quiet, whole_runs}

-- the run isn't quiet
faulty_loud : IsQuiet faulty → ⊥
faulty_loud quiet = false≢true quiet

-- the second is touched by the fault
touched : IsUntouched (plan false 100) faulty 1 → ⊥
unfolding after
touched is = of refl is
  where
    of : {number : ℕ} → number ≡ 1 → IsUntouched (plan false 100) faulty number → ⊥
    of same (untouched number not ups) = false≢true (sym (subst (λ n. is_fault (state_after (plan false 100) faulty n) ≡ false) same not))

-- the first and the third aren't
first_untouched : IsUntouched (plan false 100) faulty 0
unfolding after
first_untouched = untouched 0 refl (λ u l. absurd (false≢true l))

-- nor is the third
third_untouched : IsUntouched (plan false 100) faulty 2
unfolding after
third_untouched = untouched 2 refl (λ u l. by u (nat_eq 0 u) refl l)
  where
    by : (u : ℕ) (b : Bool) → nat_eq 0 u ≡ b → (b || false) ≡ true → IsUntouched (plan false 100) faulty u
    by u true e l = subst (IsUntouched (plan false 100) faulty) (eqb-true 0 u e) first_untouched
    by u false e l = absurd (false≢true l)

module _ (start remote : Files) (none : (q : List ℕ) → file_at start q ≡ None) (here : file_at remote (65 ∷ []) ≡ Some (5 ∷ [])) where
  abbrev given : Given
  given = record { plan = plan false 100; start = start; remote = remote; hands = λ w. record { remote = Some remote; area = true; gate = None } }

  -- nothing is there at the start
  present : IsPresent (plan false 100) start
  present zero low = sym (ap is_some (none (65 ∷ [])))
  present (suc zero) low = sym (ap is_some (none (66 ∷ [])))
  present (suc (suc zero)) low = sym (ap is_some (none (67 ∷ [])))
  present (suc (suc (suc zero))) low = sym (ap is_some (none (68 ∷ [])))
  present (suc (suc (suc (suc zero)))) low = sym (ap is_some (none (69 ∷ [])))
  present (suc (suc (suc (suc (suc zero))))) low = sym (ap is_some (none (70 ∷ [])))
  present (suc (suc (suc (suc (suc (suc f)))))) low = absurd (omega (arith, low))

  -- the premises hold together
  sample : IsWhole given whole
  sample = record {
    fitting = record { sound = sound false 100; present = present; tell = λ w low. (refl, refl); follows = whole_runs; fits = whole_fits start remote (none (65 ∷ [])) here };
    complete = whole_ends;
    quiet = whole_quiet;
  }

  -- so the sequential build builds all three
  all_built : (sequential given (answer_at (answers_in (plan false 100) whole))).states ≡ Ended ending.Built ∷ Ended ending.Built ∷ Ended ending.Built ∷ []
  unfolding after
  all_built = sym (same_states given whole (answer_at (answers_in (plan false 100) whole)) sample (extends_itself (answers_in (plan false 100) whole)))

  -- the run with the fault fits, and the third ends in it as in the sequential build
  faulty_fitting : IsFitting given faulty
  faulty_fitting = record { sound = sound false 100; present = present; tell = λ w low. (refl, refl); follows = faulty_runs; fits = faulty_fits start remote (none (65 ∷ [])) here }

  -- so the third is built in the sequential build too
  third_built : state_at (sequential given (answer_at (answers_in (plan false 100) faulty))) 2 ≡ Ended ending.Built
  unfolding after
  third_built = sym (untouched_state given faulty (answer_at (answers_in (plan false 100) faulty)) faulty_fitting (extends_itself (answers_in (plan false 100) faulty)) faulty_ends 2 (omega arith) third_untouched)
