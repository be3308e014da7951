-- What a goal is asked in the sequential build, by how that build stands at its end.
use Rattle.std.proofs.Common.{◌≡◌, ℕ, ◌<◌, Bool, true, false, not, ◌&&◌, List, [], ◌∷◌, ◌++◌, filter, find, fold, get_or, length, slice_get, Some, None, is_some, refl, arith, sym, ap, subst, ◌∙◌, if◌then◌else◌}
use Rattle.std.specs.Prelude.{drop, slice_index_or, take}
use Rattle.std.specs.List.{list_all}
use Rattle.std.proofs.lemmas.List.{append-nil, append_assoc, get_or_append_left, length-append, length-take-le, take-append-drop}
use Rattle.std.proofs.lemmas.List.Sums.{fold-append}
use Rattle.mvn_shared.specs.Files.{Files, file_at}
use Rattle.goal_types.specs.declared.goal.GoalCall.{GoalCall}
use Rattle.goal_types.specs.declared.goal.OwnBytes.{OwnBytes}
use Rattle.build_core.specs.declared.plan.Entry.{Entry}
use Rattle.build_core.specs.declared.plan.Plan.{Plan}
use Rattle.build_core.specs.declared.plan.PlanModule.{PlanModule}
use Rattle.build_core.specs.OneThread.{Progress, Supply, beginning, fetched, first_unbuilt, is_needed, name_of, next_module, one_thread, request}
use Rattle.build_core.specs.Slots.{slots_before}
use Rattle.scripts.specs.Outlines.{is_listed}
use Rattle.event_core.specs.SoundPlans.{is_backed}
use Rattle.run_law.specs.Closed.{available, judge, missing_of, outputs_at, state_at}
use Rattle.run_law.proofs.Carried.{IsFetched, fetch_all, had}
use Rattle.run_law.proofs.Fold.{IsSoFar, at_middle, in_list, one_further}
use Rattle.run_law.proofs.Hand.{IsNext, next_is}
use Rattle.run_law.proofs.JudgedRuns.{IsFitPlan}
use Rattle.run_law.proofs.Once.{both, find_same}
use Rattle.run_law.proofs.Staying.{paths_same}
use Rattle.gate_laws.specs.Gates.{before, request_in}

-- what holds of all holds of those that are kept
filter_all : {X : Type 0} (p q : X → Bool) (xs : List X) → list_all p xs ≡ true → list_all p (filter q xs) ≡ true
filter_all p q [] is = refl
filter_all p q (x ∷ xs) is = let parts = both (p x) (list_all p xs) is in by (q x) parts.0 (filter_all p q xs parts.1)
  where
    by : (b : Bool) → p x ≡ true → list_all p (filter q xs) ≡ true
        → list_all p (if b then x ∷ filter q xs else filter q xs) ≡ true
    by true here later = ap (λ b. b && list_all p (filter q xs)) here ∙ later
    by false here later = later

module _ (plan : Plan) (supply : Supply) (fit : IsFitPlan plan) where
  abbrev SoFar : List PlanModule → Progress → Type 0
  SoFar done progress = IsSoFar plan supply fit.apart fit.low fit.backed done progress

  abbrev next : Progress → PlanModule → Progress
  next progress m = next_module first_unbuilt plan supply progress m

  -- a module more
  one_step : (done : List PlanModule) (m : PlanModule) (progress : Progress)
      → slice_get plan.modules (length done) ≡ Some m → SoFar done progress
      → IsNext plan supply m progress (next progress m) (judge plan supply (state_at progress) (outputs_at progress) (length done) m)
  one_step done m progress at so = next_is plan supply fit.apart (length done) m at progress (fit.backed (length done) m at) so.states so.answers

  -- and what holds after it
  further : (done : List PlanModule) (m : PlanModule) (progress : Progress)
      → slice_get plan.modules (length done) ≡ Some m → SoFar done progress → SoFar (done ++ m ∷ []) (next progress m)
  further done m progress at so = one_further plan supply fit.apart fit.low fit.backed done m progress (next progress m) at so (one_step done m progress at so)

  -- so after the first modules
  front_far : (done rest tail : List PlanModule) (progress : Progress) → plan.modules ≡ done ++ (rest ++ tail)
      → SoFar done progress → SoFar (done ++ rest) (fold next progress rest)
  front_far done [] tail progress e so = subst (λ ms. SoFar ms progress) (sym (append-nil done)) so
  front_far done (m ∷ rest) tail progress e so =
      let at : slice_get plan.modules (length done) ≡ Some m = ap (λ ms. slice_get ms (length done)) e ∙ at_middle done (rest ++ tail) m in
      subst (λ ms. SoFar ms (fold next (next progress m) rest)) (append_assoc done (m ∷ []) rest)
      (front_far (done ++ m ∷ []) rest tail (next progress m) (e ∙ sym (append_assoc done (m ∷ []) (rest ++ tail))) (further done m progress at so))

  -- a module keeps its outputs while others follow
  later_keeps : (done rest : List PlanModule) (progress : Progress) → plan.modules ≡ done ++ rest → SoFar done progress
      → (u : ℕ) → u < length done → outputs_at (fold next progress rest) u ≡ outputs_at progress u
  later_keeps done [] progress e so u low = refl
  later_keeps done (m ∷ rest) progress e so u low =
      let at : slice_get plan.modules (length done) ≡ Some m = ap (λ ms. slice_get ms (length done)) e ∙ at_middle done rest m in
      later_keeps (done ++ m ∷ []) rest (next progress m) (e ∙ sym (append_assoc done (m ∷ []) rest)) (further done m progress at so) u (omega (arith, low, length-append done (m ∷ [])))
      ∙ ap (λ xs. get_or xs u []) (one_step done m progress at so).outputs
      ∙ get_or_append_left progress.outputs ((judge plan supply (state_at progress) (outputs_at progress) (length done) m).outputs ∷ []) [] u (omega (arith, low, so.outputs))

  -- at the beginning
  far_first : SoFar [] (beginning supply)
  far_first = record { states = refl; outputs = refl; answers = λ f fetch. refl; judged = λ k n here less. absurd (omega (arith, less)) }

  module _ (number : ℕ) (m : PlanModule) (at : slice_get plan.modules number ≡ Some m) where
    abbrev come : Progress
    come = before plan supply number

    -- what holds when the module comes next
    far : SoFar (take number plan.modules) come
    far = front_far [] (take number plan.modules) (drop number plan.modules) (beginning supply) (sym (take-append-drop number plan.modules)) far_first

    -- so many modules came before it
    long : length (take number plan.modules) ≡ number
    long = length-take-le number plan.modules (let low = in_list plan.modules number m at in omega (arith, low))

    -- and keep what they keep at the end
    pub kept_before : (u : ℕ) → u < number → outputs_at (one_thread plan supply) u ≡ outputs_at come u
    kept_before u low =
        ap (λ (p : Progress). outputs_at p u) (ap (fold next (beginning supply)) (sym (take-append-drop number plan.modules)) ∙ fold-append next (beginning supply) (take number plan.modules) (drop number plan.modules))
        ∙ later_keeps (take number plan.modules) (drop number plan.modules) come (sym (take-append-drop number plan.modules)) far u (omega (arith, low, long))

    -- where none is missing each fetched file has the bytes that can be had
    pub file_before : missing_of plan supply m.fetch ≡ None → (f : ℕ) → is_listed f m.fetch ≡ true
        → file_at (fetched plan supply.remote m.fetch come.files).files (name_of plan f) ≡ available plan supply f
    file_before none f listed = is.there (is.missing ∙ same ∙ none) f listed ∙ far.answers f (number, m, at, listed)
      where
        is : IsFetched supply.remote plan m.fetch come.files (fetched plan supply.remote m.fetch come.files)
        is = fetch_all supply.remote plan m.fetch come.files

        same : find (λ f. not (is_some (had supply.remote come.files (name_of plan f)))) m.fetch ≡ missing_of plan supply m.fetch
        same = find_same (λ f. not (is_some (had supply.remote come.files (name_of plan f)))) (λ f. not (is_some (available plan supply f))) m.fetch (λ f l. ap (λ o. not (is_some o)) (far.answers f (number, m, at, l)))

    -- so a request over such bytes, with the outputs that upstreams keep at the end, is what the goal is asked
    pub asked_so : (goal : ℕ) (call : GoalCall) (files : Files) (outputs : List (List OwnBytes)) (own : List OwnBytes)
        → missing_of plan supply m.fetch ≡ None
        → ((f : ℕ) → is_listed f m.fetch ≡ true → file_at files (name_of plan f) ≡ available plan supply f)
        → ((u : ℕ) → is_listed u m.upstream ≡ true → slice_index_or outputs u [] ≡ outputs_at (one_thread plan supply) u)
        → own ≡ slots_before m.budget (supply.answers number) goal m.goals
        → request plan files outputs m call own ≡ request_in plan supply number m goal call
    asked_so goal call files outputs own none bytes kept same =
        ap (λ o. request plan files outputs m call o) same
        ∙ ap (λ paths. record { «module» = m.gav; call = call; sources = m.sources; own = slots_before m.budget (supply.answers number) goal m.goals; classpath = paths })
        (paths_same plan m (fetched plan supply.remote m.fetch come.files).files files come.outputs outputs (λ f l. bytes f l ∙ sym (file_before none f l)) (λ u l. kept u l ∙ kept_before u (fit.low number u m at l))
        (filter (is_needed call.need) m.entries) (filter_all (λ (e : Entry). is_backed m e.origin) (is_needed call.need) m.entries (fit.backed number m at)))
