-- The sequential build, again over one plan, from any files between the start and its end: it ends the same.
use Rattle.std.proofs.Common.{◌≡◌, ℕ, ◌+◌, ◌<◌, ◌⊎◌, inl, inr, Bool, true, false, not, ◌&&◌, nat_lt, List, [], ◌∷◌, find, map, slice_get, Option, Some, None, is_some, refl, arith, sym, ap, subst, ◌∙◌, if◌then◌else◌}
use Rattle.std.specs.List.{list_all}
use Rattle.std.specs.Option.{option_or}
use Rattle.std.proofs.lemmas.Bool.{false≢true}
use Rattle.mvn_shared.specs.Files.{Files, file_at}
use Rattle.build_core.specs.declared.ending.Ending.TheVariants as ending
use Rattle.build_core.specs.declared.plan.Entry.{Entry}
use Rattle.goal_types.specs.declared.goal.GoalAnswer.{GoalAnswer}
use Rattle.build_core.specs.declared.plan.Origin.{Origin}
use Rattle.build_core.specs.declared.plan.Origin.TheVariants as origin
use Rattle.goal_types.specs.declared.goal.OwnBytes.{OwnBytes}
use Rattle.build_core.specs.declared.plan.OwnFile.{OwnFile}
use Rattle.build_core.specs.declared.plan.Plan.{Plan}
use Rattle.build_core.specs.declared.plan.PlanModule.{PlanModule}
use Rattle.build_core.specs.declared.ending.State.{State}
use Rattle.build_core.specs.declared.ending.State.TheVariants as state
use Rattle.run_law.specs.Closed.{AreJudged, available, had_prefix, judge, missing_of, origin_len, outputs_at, state_at, total_len, verdict_of_fetch, verdict_of_goals, verdict_of_upstream}
use Rattle.run_law.proofs.Invariants.{IsFetchFile}
use Rattle.run_law.specs.Given.{supply_by}
use Rattle.build_core.specs.OneThread.{Progress, Supply, bytes_len, is_built, most_classpath, name_of, one_thread, remote_bytes}
use Rattle.scripts.specs.Outlines.{is_listed}
use Rattle.build_core.specs.Slots.{run_goals}
use Rattle.event_core.specs.SoundPlans.{is_backed}
use Rattle.run_law.proofs.Betweens.{option_or_some}
use Rattle.run_law.proofs.JudgedRuns.{IsFitPlan}
use Rattle.run_law.proofs.Contents.{left_once}
use Rattle.run_law.proofs.Fold.{hand_judged, in_list}
use Rattle.run_law.proofs.HandFiles.{hand_left}
use Rattle.run_law.proofs.Once.{both, find_same, judged_once, listed_first, listed_later}
use Rattle.run_law.proofs.ClosedFiles.{AreOwnsFit, IsLeft, is_skipped_state, own_at}
use Rattle.run_law.proofs.Stored.{get_in, none_is}

-- what was put over itself stands
put_again : (x s : Option (List ℕ)) → option_or x (option_or x s) ≡ option_or x s
put_again (Some b) s = refl
put_again None s = refl

module _ (plan : Plan) (fit : IsFitPlan plan) (owns : AreOwnsFit plan) (start mid remote : Files) (said : ℕ → ℕ → GoalAnswer)
    (lies : (q : List ℕ) → (file_at mid q ≡ file_at start q) ⊎ (file_at mid q ≡ file_at (one_thread plan (supply_by start remote said)).files q)) where
  abbrev first : Supply
  first = supply_by start remote said

  abbrev again : Supply
  again = supply_by mid remote said

  abbrev one : Progress
  one = one_thread plan first

  abbrev two : Progress
  two = one_thread plan again

  -- how the files of the first build stand
  left : IsLeft plan first (state_at one) (outputs_at one) one.files
  left = hand_left plan first fit owns

  -- and those of the second
  left' : IsLeft plan again (state_at two) (outputs_at two) two.files
  left' = hand_left plan again fit owns

  -- ---- what can be had is the same

  -- a fetched file can be had the same
  have_same : (f : ℕ) → IsFetchFile plan f → available plan again f ≡ available plan first f
  have_same f fetch = by (lies (name_of plan f))
    where
      none : (b : Bool) → is_some (file_at start (name_of plan f)) ≡ b → is_some (file_at one.files (name_of plan f)) ≡ false → file_at one.files (name_of plan f) ≡ file_at start (name_of plan f)
      none false e gone = none_is (file_at one.files (name_of plan f)) gone ∙ sym (none_is (file_at start (name_of plan f)) e)
      none true e gone = absurd (false≢true (sym gone ∙ left.kept f fetch e))

      at_end : (b : Bool) → is_some (file_at one.files (name_of plan f)) ≡ b → option_or (file_at one.files (name_of plan f)) (remote_bytes remote (name_of plan f)) ≡ available plan first f
      at_end true e =
          let same = left.bytes f fetch e in
          option_or_some (file_at one.files (name_of plan f)) (remote_bytes remote (name_of plan f)) e ∙ same
      at_end false e = ap (λ x. option_or x (remote_bytes remote (name_of plan f))) (none (is_some (file_at start (name_of plan f))) refl e)

      by : (file_at mid (name_of plan f) ≡ file_at start (name_of plan f)) ⊎ (file_at mid (name_of plan f) ≡ file_at one.files (name_of plan f)) → available plan again f ≡ available plan first f
      by (inl e) = ap (λ x. option_or x (remote_bytes remote (name_of plan f))) e
      by (inr e) = ap (λ x. option_or x (remote_bytes remote (name_of plan f))) e ∙ at_end (is_some (file_at one.files (name_of plan f))) refl

  module _ (number : ℕ) (m : PlanModule) (at : slice_get plan.modules number ≡ Some m) where
    -- so can each of a module's list
    have : (f : ℕ) → is_listed f m.fetch ≡ true → available plan again f ≡ available plan first f
    have f l = have_same f (number, m, at, l)

    -- so the same is missing
    missing_same : missing_of plan again m.fetch ≡ missing_of plan first m.fetch
    missing_same = find_same (λ f. not (is_some (available plan again f))) (λ f. not (is_some (available plan first f))) m.fetch (λ f l. ap (λ o. not (is_some o)) (have f l))

    -- and the same is reached
    prefix_same : (xs : List ℕ) → ((f : ℕ) → is_listed f xs ≡ true → is_listed f m.fetch ≡ true) → had_prefix plan again xs ≡ had_prefix plan first xs
    prefix_same [] sub = refl
    prefix_same (f ∷ xs) sub =
        ap (λ b. if is_some b then f ∷ had_prefix plan again xs else []) (have f (sub f (listed_first f xs)))
        ∙ ap (λ ys. if is_some (available plan first f) then f ∷ ys else []) (prefix_same xs (λ g l. sub g (listed_later f g xs l)))

    -- an entry has the same length
    origin_again : (outputs : ℕ → List OwnBytes) (o : Origin) → is_backed m o ≡ true → origin_len plan again outputs o ≡ origin_len plan first outputs o
    origin_again outputs (origin.File f) is = ap bytes_len (have f is)
    origin_again outputs (origin.Module u s) is = refl
    origin_again outputs origin.Nothing is = refl

    -- so has the classpath
    len_again : (outputs : ℕ → List OwnBytes) (entries : List Entry) → list_all (λ (e : Entry). is_backed m e.origin) entries ≡ true → total_len plan again outputs entries ≡ total_len plan first outputs entries
    len_again outputs [] is = refl
    len_again outputs (e ∷ entries) is =
        let parts = both (is_backed m e.origin) (list_all (λ (e : Entry). is_backed m e.origin) entries) is in
        ap (λ n. n + total_len plan again outputs entries) (origin_again outputs e.origin parts.0) ∙ ap (λ n. origin_len plan first outputs e.origin + n) (len_again outputs entries parts.1)

    -- so is each verdict
    fetch_again : (outputs : ℕ → List OwnBytes) (missing : Option ℕ) → verdict_of_fetch plan again number m outputs missing ≡ verdict_of_fetch plan first number m outputs missing
    fetch_again outputs (Some f) = refl
    fetch_again outputs None =
        ap (λ n. if nat_lt most_classpath n then record { state = state.Ended ending.ClasspathTooLarge; outputs = [] } else verdict_of_goals m (run_goals m.budget (said number) 0 m.goals [])) (len_again outputs m.entries (fit.backed number m at))

    -- so each module is judged the same
    judge_again : (states : ℕ → State) (outputs : ℕ → List OwnBytes) → judge plan again states outputs number m ≡ judge plan first states outputs number m
    unfolding judge
    judge_again states outputs = by (find (λ u. not (is_built (states u))) m.upstream)
      where
        by : (found : Option ℕ) → verdict_of_upstream plan again number m outputs found ≡ verdict_of_upstream plan first number m outputs found
        by (Some u) = refl
        by None = ap (verdict_of_fetch plan again number m outputs) missing_same ∙ fetch_again outputs (missing_of plan first m.fetch)

  -- ---- endings

  -- so the second build stands as judged for the first
  judged_again : AreJudged plan first (λ _. Unit {0}) (state_at two) (outputs_at two)
  judged_again number m at any = hand_judged plan again fit.apart fit.low fit.backed number m at tt ∙ judge_again number m at (state_at two) (outputs_at two)

  -- a place below a module's is a module's
  real : (number u : ℕ) (m : PlanModule) → slice_get plan.modules number ≡ Some m → u < number → (n : PlanModule) × (slice_get plan.modules u ≡ Some n)
  real number u m at less = get_in plan.modules u (let low = in_list plan.modules number m at in omega (arith, less, low))

  -- so both stand in one way
  pub ends_again : (number : ℕ) (m : PlanModule) → slice_get plan.modules number ≡ Some m → (state_at two number ≡ state_at one number) × (outputs_at two number ≡ outputs_at one number)
  ends_again number m at = judged_once plan first (λ _. Unit {0}) (state_at two) (state_at one) (outputs_at two) (outputs_at one) (λ k u n here l. (fit.low k u n here l, λ any. tt)) real fit.backed
      judged_again (hand_judged plan first fit.apart fit.low fit.backed) number m at tt

  -- ---- files

  -- what a module reaches is the same
  prefix_of : (number : ℕ) (m : PlanModule) → slice_get plan.modules number ≡ Some m → had_prefix plan again m.fetch ≡ had_prefix plan first m.fetch
  prefix_of number m at = prefix_same number m at m.fetch (λ f l. l)

  -- a name that the build leaves as it is
  mid_same : (q : List ℕ) → file_at one.files q ≡ file_at start q → file_at mid q ≡ file_at start q
  mid_same q same = by (lies q)
    where
      by : (file_at mid q ≡ file_at start q) ⊎ (file_at mid q ≡ file_at one.files q) → file_at mid q ≡ file_at start q
      by (inl e) = e
      by (inr e) = e ∙ same

  -- so the second build's files are in the closed form of the first
  left_again : IsLeft plan first (state_at two) (outputs_at two) two.files
  left_again = record {
    other = λ q apart. left'.other q apart ∙ mid_same q (left.other q apart);
    neither = λ f low unfetched unowned. left'.neither f low unfetched unowned ∙ mid_same (name_of plan f) (left.neither f low unfetched unowned);
    bytes = λ f fetch is. left'.bytes f fetch is ∙ have_same f fetch;
    had = λ number f m at not l. left'.had number f m at not (subst (λ xs. is_listed f xs ≡ true) (sym (prefix_of number m at)) l);
    reason = λ f fetch is. why f fetch (left'.reason f fetch is);
    kept = λ f fetch is. left'.kept f fetch (mid_kept f fetch is (lies (name_of plan f)));
    own = λ number f m at mine. left'.own number f m at mine ∙ own_same number f m at mine (lies (name_of plan f));
  }
    where
      Why : ℕ → Type 0
      Why f = (is_some (file_at start (name_of plan f)) ≡ true) ⊎ ((number : ℕ) × (m : PlanModule) × (slice_get plan.modules number ≡ Some m) × (is_skipped_state (state_at two number) ≡ false) × (is_listed f (had_prefix plan first m.fetch) ≡ true))

      from_end : (f : ℕ) → (is_some (file_at start (name_of plan f)) ≡ true) ⊎ ((number : ℕ) × (m : PlanModule) × (slice_get plan.modules number ≡ Some m) × (is_skipped_state (state_at one number) ≡ false) × (is_listed f (had_prefix plan first m.fetch) ≡ true)) → Why f
      from_end f (inl s) = inl s
      from_end f (inr r) = inr (r.0, r.1, r.2, ap is_skipped_state (ends_again r.0 r.1 r.2).0 ∙ r.3, r.4)

      from_mid : (f : ℕ) → IsFetchFile plan f → is_some (file_at mid (name_of plan f)) ≡ true → (file_at mid (name_of plan f) ≡ file_at start (name_of plan f)) ⊎ (file_at mid (name_of plan f) ≡ file_at one.files (name_of plan f)) → Why f
      from_mid f fetch is (inl e) = inl (ap is_some (sym e) ∙ is)
      from_mid f fetch is (inr e) = from_end f (left.reason f fetch (ap is_some (sym e) ∙ is))

      why : (f : ℕ) → IsFetchFile plan f → (is_some (file_at mid (name_of plan f)) ≡ true) ⊎ ((number : ℕ) × (m : PlanModule) × (slice_get plan.modules number ≡ Some m) × (is_skipped_state (state_at two number) ≡ false) × (is_listed f (had_prefix plan again m.fetch) ≡ true)) → Why f
      why f fetch (inl is) = from_mid f fetch is (lies (name_of plan f))
      why f fetch (inr r) = inr (r.0, r.1, r.2, r.3, subst (λ xs. is_listed f xs ≡ true) (prefix_of r.0 r.1 r.2) r.4)

      mid_kept : (f : ℕ) → IsFetchFile plan f → is_some (file_at start (name_of plan f)) ≡ true → (file_at mid (name_of plan f) ≡ file_at start (name_of plan f)) ⊎ (file_at mid (name_of plan f) ≡ file_at one.files (name_of plan f)) → is_some (file_at mid (name_of plan f)) ≡ true
      mid_kept f fetch is (inl e) = ap is_some e ∙ is
      mid_kept f fetch is (inr e) = ap is_some e ∙ left.kept f fetch is

      written : ℕ → PlanModule → State → List OwnBytes → Option (List ℕ)
      written f m s own = if is_built s && m.installs then own_at m own f else None

      own_same : (number f : ℕ) (m : PlanModule) → slice_get plan.modules number ≡ Some m → is_listed f (map (λ (o : OwnFile). o.file) m.own) ≡ true → (file_at mid (name_of plan f) ≡ file_at start (name_of plan f)) ⊎ (file_at mid (name_of plan f) ≡ file_at one.files (name_of plan f))
          → option_or (written f m (state_at two number) (outputs_at two number)) (file_at mid (name_of plan f)) ≡ option_or (written f m (state_at two number) (outputs_at two number)) (file_at start (name_of plan f))
      own_same number f m at mine (inl e) = ap (option_or (written f m (state_at two number) (outputs_at two number))) e
      own_same number f m at mine (inr e) =
          let ends = ends_again number m at in
          let alike = ap (λ s. written f m s (outputs_at one number)) (sym ends.0) ∙ ap (written f m (state_at two number)) (sym ends.1) in
          ap (option_or (written f m (state_at two number) (outputs_at two number))) (e ∙ left.own number f m at mine ∙ ap (λ x. option_or x (file_at start (name_of plan f))) alike)
          ∙ put_again (written f m (state_at two number) (outputs_at two number)) (file_at start (name_of plan f))

  -- so they are the same
  pub files_again : two.files ≡ one.files
  files_again = left_once plan first (state_at two) (state_at one) (outputs_at two) (outputs_at one) two.files one.files left_again left ends_again
