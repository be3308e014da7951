-- The fold over the modules, in order, is judged.
use Rattle.std.proofs.Common.{◌≡◌, ℕ, zero, suc, ◌+◌, ◌<◌, ◌≤◌, ◌⊎◌, inl, inr, true, List, [], ◌∷◌, ◌++◌, fold, length, get_or, slice_get, Some, unwrap_or, refl, arith, sym, ap, subst, ◌∙◌}
use Rattle.std.specs.List.{list_all}
use Rattle.std.proofs.lemmas.List.{append-nil, append_assoc, get_or_append_left, get_or_push, length-append}
use Rattle.build_core.specs.declared.plan.Plan.{Plan}
use Rattle.build_core.specs.declared.plan.PlanModule.{PlanModule}
use Rattle.build_core.specs.declared.plan.Entry.{Entry}
use Rattle.build_core.specs.declared.ending.State.TheVariants.{Waiting}
use Rattle.build_core.specs.OneThread.{Progress, Supply, beginning, first_unbuilt, name_of, next_module, one_thread}
use Rattle.run_law.specs.Closed.{AreJudged, Verdict, available, judge, outputs_at, state_at}
use Rattle.scripts.specs.Outlines.{is_listed}
use Rattle.event_core.specs.SoundPlans.{is_backed}
use Rattle.run_law.proofs.Carried.{had}
use Rattle.scripts.proofs.Dues.{below_or_not}
use Rattle.run_law.proofs.Hand.{AreApart, IsFetchFile, IsNext, next_is}
use Rattle.run_law.proofs.Once.{judge_same}
use Rattle.event_core.proofs.Weights.{nothing_is}

-- where a place lies in a list with one more
pub last_or_before : {X : Type 0} (xs : List X) (y x : X) (i : ℕ) → slice_get (xs ++ y ∷ []) i ≡ Some x → ((i < length xs) × (slice_get xs i ≡ Some x)) ⊎ ((i ≡ length xs) × (Some y ≡ Some x))
last_or_before [] y x zero is = inr (refl, is)
last_or_before [] y x (suc i) is = absurd (nothing_is x is)
last_or_before (z ∷ xs) y x zero is = inl (omega arith, is)
last_or_before (z ∷ xs) y x (suc i) is = by (last_or_before xs y x i is)
  where
    by : ((i < length xs) × (slice_get xs i ≡ Some x)) ⊎ ((i ≡ length xs) × (Some y ≡ Some x)) → ((suc i < suc (length xs)) × (slice_get xs i ≡ Some x)) ⊎ ((suc i ≡ suc (length xs)) × (Some y ≡ Some x))
    by (inl a) = inl (omega (arith, a.0), a.1)
    by (inr b) = inr (ap suc b.0, b.1)

-- the item behind a first part of a list
pub at_middle : {X : Type 0} (xs ys : List X) (y : X) → slice_get (xs ++ y ∷ ys) (length xs) ≡ Some y
at_middle [] ys y = refl
at_middle (x ∷ xs) ys y = at_middle xs ys y

-- what stands at a place stands below the length
pub in_list : {X : Type 0} (xs : List X) (i : ℕ) (x : X) → slice_get xs i ≡ Some x → i < length xs
in_list [] i x is = absurd (nothing_is x is)
in_list (y ∷ xs) zero x is = omega arith
in_list (y ∷ xs) (suc i) x is = let again = in_list xs i x is in omega (arith, again)

module _ (plan : Plan) (supply : Supply) (apart : AreApart plan)
    (low : (number u : ℕ) (m : PlanModule) → slice_get plan.modules number ≡ Some m → is_listed u m.upstream ≡ true → u < number)
    (backed : (number : ℕ) (m : PlanModule) → slice_get plan.modules number ≡ Some m → list_all (λ (e : Entry). is_backed m e.origin) m.entries ≡ true) where
  -- what holds behind the first modules
  pub record IsSoFar (done : List PlanModule) (progress : Progress) : Type 0 where
    pub states : length progress.states ≡ length done
    pub outputs : length progress.outputs ≡ length done
    pub answers : (f : ℕ) → IsFetchFile plan f → had supply.remote progress.files (name_of plan f) ≡ available plan supply f
    pub judged : (number : ℕ) (m : PlanModule) → slice_get plan.modules number ≡ Some m → number < length done → ◌≡◌ {A = Verdict} (record { state = state_at progress number; outputs = outputs_at progress number }) (judge plan supply (state_at progress) (outputs_at progress) number m)

  -- one module more stands as it is judged
  pub one_further : (done : List PlanModule) (m : PlanModule) (progress after : Progress) → slice_get plan.modules (length done) ≡ Some m → IsSoFar done progress
      → IsNext plan supply m progress after (judge plan supply (state_at progress) (outputs_at progress) (length done) m) → IsSoFar (done ++ m ∷ []) after
  one_further done m progress after at so next = record {
    states = longer v.state progress.states after.states next.states so.states;
    outputs = longer v.outputs progress.outputs after.outputs next.outputs so.outputs;
    answers = λ f fetch. next.alike f fetch ∙ so.answers f fetch;
    judged = λ number n here less. by number n here (omega (arith, less, length-append done (m ∷ [])));
  }
    where
      v : Verdict
      v = judge plan supply (state_at progress) (outputs_at progress) (length done) m

      longer : {X : Type 0} (x : X) (xs ys : List X) → ys ≡ xs ++ x ∷ [] → length xs ≡ length done → length ys ≡ length (done ++ m ∷ [])
      longer x xs ys e same = ap length e ∙ length-append xs (x ∷ []) ∙ ap (λ n. n + 1) same ∙ sym (length-append done (m ∷ []))

      old_state : (u : ℕ) → u < length done → state_at progress u ≡ state_at after u
      old_state u less = sym (ap (λ xs. get_or xs u Waiting) next.states ∙ get_or_append_left progress.states (v.state ∷ []) Waiting u (omega (arith, less, so.states)))

      old_outputs : (u : ℕ) → u < length done → outputs_at progress u ≡ outputs_at after u
      old_outputs u less = sym (ap (λ xs. get_or xs u []) next.outputs ∙ get_or_append_left progress.outputs (v.outputs ∷ []) [] u (omega (arith, less, so.outputs)))

      same : (number : ℕ) (n : PlanModule) → slice_get plan.modules number ≡ Some n → number ≤ length done → judge plan supply (state_at progress) (outputs_at progress) number n ≡ judge plan supply (state_at after) (outputs_at after) number n
      same number n here small = judge_same plan supply (state_at progress) (state_at after) (outputs_at progress) (outputs_at after) number n (backed number n here)
          (λ u is. old_state u (omega (arith, low number u n here is, small))) (λ u is. old_outputs u (omega (arith, low number u n here is, small)))

      two : (number : ℕ) (w : Verdict) → state_at after number ≡ w.state → outputs_at after number ≡ w.outputs → ◌≡◌ {A = Verdict} (record { state = state_at after number; outputs = outputs_at after number }) w
      two number w a b = λ i. record { state = a i; outputs = b i }

      by : (number : ℕ) (n : PlanModule) → slice_get plan.modules number ≡ Some n → number < length done + 1 → ◌≡◌ {A = Verdict} (record { state = state_at after number; outputs = outputs_at after number }) (judge plan supply (state_at after) (outputs_at after) number n)
      by number n here less = split (below_or_not number (length done))
        where
          last : (n : PlanModule) → m ≡ n → slice_get plan.modules (length done) ≡ Some n → ◌≡◌ {A = Verdict} (record { state = state_at after (length done); outputs = outputs_at after (length done) }) (judge plan supply (state_at after) (outputs_at after) (length done) n)
          last n e here =
              let whole : v ≡ judge plan supply (state_at after) (outputs_at after) (length done) n = ap (judge plan supply (state_at progress) (outputs_at progress) (length done)) e ∙ same (length done) n here (omega arith) in
              two (length done) (judge plan supply (state_at after) (outputs_at after) (length done) n)
              (ap (λ xs. get_or xs (length done) Waiting) next.states ∙ get_or_push progress.states v.state Waiting (length done) so.states ∙ ap (λ (w : Verdict). w.state) whole)
              (ap (λ xs. get_or xs (length done) []) next.outputs ∙ get_or_push progress.outputs v.outputs [] (length done) so.outputs ∙ ap (λ (w : Verdict). w.outputs) whole)

          split : (number < length done) ⊎ (length done ≤ number) → ◌≡◌ {A = Verdict} (record { state = state_at after number; outputs = outputs_at after number }) (judge plan supply (state_at after) (outputs_at after) number n)
          split (inl small) =
              let before = so.judged number n here small ∙ same number n here (omega (arith, small)) in
              two number (judge plan supply (state_at after) (outputs_at after) number n) (sym (old_state number small) ∙ ap (λ (w : Verdict). w.state) before) (sym (old_outputs number small) ∙ ap (λ (w : Verdict). w.outputs) before)
          split (inr far) =
              let e : length done ≡ number = omega (arith, far, less) in
              let there : slice_get plan.modules (length done) ≡ Some n = subst (λ k. slice_get plan.modules k ≡ Some n) (sym e) here in
              subst (λ k. ◌≡◌ {A = Verdict} (record { state = state_at after k; outputs = outputs_at after k }) (judge plan supply (state_at after) (outputs_at after) k n)) e (last n (ap (λ o. unwrap_or o m) (sym at ∙ there)) there)

  -- so do all that follow
  pub fold_judged : (done rest : List PlanModule) (progress : Progress) → plan.modules ≡ done ++ rest → IsSoFar done progress → IsSoFar plan.modules (fold (next_module first_unbuilt plan supply) progress rest)
  fold_judged done [] progress e so = subst (λ ms. IsSoFar ms progress) (sym (e ∙ append-nil done)) so
  fold_judged done (m ∷ rest) progress e so =
      let at : slice_get plan.modules (length done) ≡ Some m = ap (λ ms. slice_get ms (length done)) e ∙ at_middle done rest m in
      fold_judged (done ++ m ∷ []) rest (next_module first_unbuilt plan supply progress m) (e ∙ sym (append_assoc done (m ∷ []) rest))
      (one_further done m progress (next_module first_unbuilt plan supply progress m) at so (next_is plan supply apart (length done) m at progress (backed (length done) m at) so.states so.answers))

  -- so the sequential build stands as it is judged
  pub hand_judged : AreJudged plan supply (λ _. Unit {0}) (state_at (one_thread plan supply)) (outputs_at (one_thread plan supply))
  hand_judged number m at any = (fold_judged [] plan.modules (beginning supply) refl (record { states = refl; outputs = refl; answers = λ f fetch. refl; judged = λ k n here less. absurd (omega (arith, less)) })).judged number m at (in_list plan.modules number m at)
