-- All that holds behind a run holds behind one entry more.
use Rattle.std.proofs.Common.{◌≡◌, ℕ, ◌⊎◌, inl, inr, Bool, true, false, nat_eq, nat_lt, set, List, [], ◌∷◌, ◌++◌, length, slice_get, Option, Some, None, is_some, IfSome, unwrap_or, refl, arith, sym, ap, subst, ◌∙◌}
use Rattle.std.specs.List.{list_all}
use Rattle.std.specs.Option.{option_map_or}
use Rattle.std.proofs.lemmas.Bool.{eqb-true, false≢true}
use Rattle.mvn_shared.specs.Files.{Files}
use Rattle.build_core.specs.declared.event.Answered.{Answered}
use Rattle.goal_types.specs.declared.goal.GoalAnswer.{GoalAnswer}
use Rattle.event_core.specs.declared.entry.Carried.{Carried}
use Rattle.event_core.specs.declared.entry.Carried.TheVariants as carried
use Rattle.scripts.specs.declared.deed.Deed.{Deed}
use Rattle.scripts.specs.declared.deed.Deed.TheVariants as deed
use Rattle.event_core.specs.Causes.{stage_at}
use Rattle.build_core.specs.declared.ending.Ending.{Ending}
use Rattle.build_core.specs.declared.ending.Ending.TheVariants as ending
use Rattle.build_core.specs.declared.plan.Entry.{Entry}
use Rattle.build_core.specs.declared.event.Event.{Event}
use Rattle.build_core.specs.declared.event.Event.TheVariants as event
use Rattle.scripts.specs.declared.outline.Outline.{Outline}
use Rattle.build_core.specs.declared.plan.Plan.{Plan}
use Rattle.build_core.specs.declared.plan.PlanModule.{PlanModule}
use Rattle.event_core.specs.declared.module_steps.Progress.{Progress}
use Rattle.event_core.specs.declared.module_steps.Progress.TheVariants.{Running, Skipped, Ended}
use Rattle.event_core.specs.declared.entry.RunEntry.{RunEntry}
use Rattle.build_core.specs.declared.ending.State.TheVariants as state
use Rattle.run_law.specs.Closed.{Verdict, missing_of, total_len, verdict_of_fetch}
use Rattle.event_core.specs.Enabled.{IsEnabled, ending_in_range, is_due, may_end_so}
use Rattle.run_law.proofs.Invariants.{AreEnded, AreKept, IsGathering, has_answer, is_begun, outs, pending, supply_of}
use Rattle.run_law.specs.Given.{IsPresent}
use Rattle.build_core.specs.OneThread.{Supply, answer_at, most_classpath}
use Rattle.scripts.specs.Outlines.{module_outline, outline_of}
use Rattle.event_core.specs.Runs.{answers_in, kept_by, standing_of_run}
use Rattle.scripts.specs.Scripts.{done, is_there}
use Rattle.event_core.specs.SoundPlans.{is_backed}
use Rattle.event_core.specs.HowFar.{is_over, progress_of}
use Rattle.event_core.specs.Standing.{Course, Standing, after, course_of, idle, module_of, off_course, on_course}
use Rattle.event_core.specs.Standing
use Rattle.event_core.specs.Worlds.{Fits, FitsAnswer, FitsBehind, FitsEnd, HandTold, IsWithin, is_answered, stood, FitsModule}
use Rattle.run_law.proofs.Ended.{Behind, begun_stays, ended_stays, judged_end, len_stays, set_cases}
use Rattle.run_law.proofs.RunGathering.{all_here, done_leaves}
use Rattle.run_law.proofs.Hand.{AreApart}
use Rattle.run_law.proofs.Kept.{has_more, other_answers}
use Rattle.run_law.proofs.Ready.{all_had, within_is}
use Rattle.run_law.proofs.Stored.{due_on, get_in, get_map, length_map}
use Rattle.std.proofs.lemmas.List.{append-nil}

abbrev ended_list : Option ℕ → Ending → List Progress → List Progress
ended_list found e progress = Standing.ended found e progress

abbrev is_ended : Progress → Bool
is_ended (Ended e) = true
is_ended other = false

abbrev ending_in : Progress → Ending
ending_in (Ended e) = e
ending_in other = ending.Memory

-- numbers that differ are told apart
apart_from : (k u : ℕ) → (k ≡ u → ⊥) → nat_eq k u ≡ false
apart_from k u other = by (nat_eq k u) refl
  where
    by : (b : Bool) → nat_eq k u ≡ b → nat_eq k u ≡ false
    by false e = e
    by true e = absurd (other (eqb-true k u e))

-- what isn't an ending that is put somewhere: what is ended was
set_back : (ps : List Progress) (m : ℕ) (p : Progress) → is_ended p ≡ false → (u : ℕ) (e : Ending) → progress_of (set ps m p) u ≡ Ended e → progress_of ps u ≡ Ended e
set_back ps m p isnt u e is = by (set_cases ps m p u)
  where
    by : (progress_of (set ps m p) u ≡ progress_of ps u) ⊎ ((u ≡ m) × (progress_of (set ps m p) u ≡ p)) → progress_of ps u ≡ Ended e
    by (inl same) = sym same ∙ is
    by (inr here) = absurd (false≢true (sym isnt ∙ ap is_ended (sym here.1 ∙ is)))

-- what is there, with its value
is_some_at : {X : Type 0} (found : Option X) → is_some found ≡ true → (x : X) × (found ≡ Some x)
is_some_at (Some x) is = (x, refl)
is_some_at None is = absurd (false≢true is)

module _ (plan : Plan) (start remote : Files) (apart : AreApart plan) (present : IsPresent plan start)
    (backed : (number : ℕ) (m : PlanModule) → slice_get plan.modules number ≡ Some m → list_all (λ (e : Entry). is_backed m e.origin) m.entries ≡ true) (sized : length plan.present ≡ length plan.files)
    (hands : ℕ → HandTold) (tells : (w : ℕ) → (hands w).remote ≡ Some remote) where
  abbrev o : Outline
  o = outline_of plan

  abbrev base : Supply
  base = supply_of start remote []

  abbrev Holds : Standing → List Answered → Type 0
  Holds next kept = AreKept plan start remote next kept × AreEnded plan start remote next kept

  module _ (past : List RunEntry) (behind : Behind plan start remote apart present backed past) where
    abbrev now : Standing
    now = standing_of_run plan past

    abbrev old : List Answered
    old = answers_in plan past

    -- no answer, and no end
    plain : (e : Event) → IsEnabled o now e → ((u : ℕ) (x : Ending) → progress_of (after o now e).progress u ≡ Ended x → progress_of now.progress u ≡ Ended x) → Holds (after o now e) (old ++ [])
    plain e is back = subst (Holds (after o now e)) (sym (append-nil old))
        (record { begun = λ u has. begun_stays o now e is u (behind.kept.begun u has); had = behind.kept.had; within = behind.kept.within }, λ number m x at ended quiet. behind.ended number m x at (back number x ended) quiet)

    -- the module of a worker that does something
    pub place_of : (w k : ℕ) → module_of (course_of now w) ≡ Some k → (m : PlanModule) × (slice_get plan.modules k ≡ Some m)
    place_of w k is = let real = behind.standing.tied.real w k is in let long = length_map module_outline plan.modules in get_in plan.modules k (omega (arith, real, long))

    -- what the row of an entry says of its worker's module
    pub behind_of : (w k : ℕ) (m : PlanModule) (e : Event) (what : Carried) → module_of (course_of now w) ≡ Some k → slice_get plan.modules k ≡ Some m → FitsBehind plan (Some start) hands past (record { event = e; carried = what }) (Some w) → FitsModule (stood plan (Some start) past k m) (hands w) (stage_at (course_of now w)) e what
    behind_of w k m e what is at fits =
        let one = subst (λ x. IfSome x (λ number. IfSome (slice_get plan.modules number) (λ m. FitsModule (stood plan (Some start) past number m) (hands w) (stage_at (course_of now w)) e what))) is fits in
        subst (λ x. IfSome x (λ m. FitsModule (stood plan (Some start) past k m) (hands w) (stage_at (course_of now w)) e what)) at one

    -- an answer
    module _ (w g : ℕ) (answer : GoalAnswer) (is : IsEnabled o now (event.Answer w g)) (k : ℕ) (m : PlanModule) (whose : module_of (course_of now w) ≡ Some k) (at : slice_get plan.modules k ≡ Some m) (within : IsWithin (stood plan (Some start) past k m)) where
      abbrev new : Answered
      new = record { «module» = k; goal = g; answer = answer }

      -- the module runs
      runs : progress_of now.progress k ≡ Running w
      runs = behind.standing.tied.busy w k whose

      -- what is over has the answers that it had
      same : (u : ℕ) → is_over (progress_of now.progress u) ≡ true → answer_at (old ++ new ∷ []) u ≡ answer_at old u
      same u over = other_answers old new u (apart_from k u (λ e. false≢true (sym (ap is_over runs) ∙ subst (λ x. is_over (progress_of now.progress x) ≡ true) (sym e) over)))

      -- all its files are there
      all : list_all (is_there now.there) m.fetch ≡ true
      all =
          let on = due_on (course_of now w) (deed.Answer g) is.2 in
          let same : on.0 ≡ k = ap (λ x. unwrap_or x 0) (sym (ap module_of on.3) ∙ whose) in
          let gather : IsGathering o now.there (on_course on.0 on.1 on.2) = subst (IsGathering o now.there) on.3 (behind.gathering w) in
          let facts = gather (module_outline m) (get_map module_outline plan.modules on.0 m (subst (λ x. slice_get plan.modules x ≡ Some m) (sym same) at)) in
          let rest = is_some_at (done on.1 (deed.Answer g)) (subst (λ c. is_due c (deed.Answer g) ≡ true) on.3 is.2) in
          let left = done_leaves m.fetch on.1 (deed.Answer g) rest.0 facts.0 rest.1 in
          all_here now.there m.fetch (pending on.1) facts.1 (by left.1 (left.2 g refl))
        where
          by : {s r : List ℕ} → ((s ≡ r) ⊎ ((f : ℕ) × (deed.Answer g ≡ deed.Publish f) × (s ≡ f ∷ r))) → r ≡ [] → s ≡ []
          by (inl e) none = e ∙ none
          by (inr x) none = absurd (false≢true (ap publishing x.1))
            where
              publishing : Deed → Bool
              publishing (deed.Publish f) = true
              publishing other = false

      -- a begun module's classpath stays within the limit
      stays : (number : ℕ) (n : PlanModule) → slice_get plan.modules number ≡ Some n → is_begun (progress_of now.progress number) ≡ true → nat_lt most_classpath (total_len plan base (outs plan old) n.entries) ≡ false → nat_lt most_classpath (total_len plan base (outs plan (old ++ new ∷ [])) n.entries) ≡ false
      stays number n here begun fine = subst (λ l. nat_lt most_classpath l ≡ false) (sym (len_stays plan start remote apart present backed now old (old ++ new ∷ []) behind.ordered same number n here begun)) fine

      -- an answer more leaves what is kept as judged
      one_answer : Holds (after o now (event.Answer w g)) (old ++ new ∷ [])
      unfolding after
      one_answer = (
        record { begun = λ u has. begun u (has_more old new u has); had = λ u n here has. had u n here (has_more old new u has); within = λ u n here has. fine u n here (has_more old new u has) },
        ended_stays plan start remote apart present backed now old (old ++ new ∷ []) behind.ordered same (after o now (event.Answer w g)) (λ u x e. e) behind.ended,
      )
        where
          begun : (u : ℕ) → (has_answer old u ≡ true) ⊎ (k ≡ u) → is_begun (progress_of now.progress u) ≡ true
          begun u (inl has) = behind.kept.begun u has
          begun u (inr e) = subst (λ x. is_begun (progress_of now.progress x) ≡ true) e (ap is_begun runs)

          had : (u : ℕ) (n : PlanModule) → slice_get plan.modules u ≡ Some n → (has_answer old u ≡ true) ⊎ (k ≡ u) → missing_of plan base n.fetch ≡ None
          had u n here (inl has) = behind.kept.had u n here has
          had u n here (inr e) =
              let same : m ≡ n = ap (λ x. unwrap_or x m) (sym at ∙ subst (λ x. slice_get plan.modules x ≡ Some n) (sym e) here) in
              subst (λ x. missing_of plan base x.fetch ≡ None) same (all_had plan start remote apart k m at (backed k m at) past behind.stored all [])

          fine : (u : ℕ) (n : PlanModule) → slice_get plan.modules u ≡ Some n → (has_answer old u ≡ true) ⊎ (k ≡ u) → nat_lt most_classpath (total_len plan base (outs plan (old ++ new ∷ [])) n.entries) ≡ false
          fine u n here (inl has) = stays u n here (behind.kept.begun u has) (behind.kept.within u n here has)
          fine u n here (inr e) =
              let same : m ≡ n = ap (λ x. unwrap_or x m) (sym at ∙ subst (λ x. slice_get plan.modules x ≡ Some n) (sym e) here) in
              subst (λ (x : PlanModule). nat_lt most_classpath (total_len plan base (outs plan (old ++ new ∷ [])) x.entries) ≡ false) same
              (stays k m at (ap is_begun runs) (within_is plan start remote apart k m at (backed k m at) past behind.stored all within))

    -- what may end is a module
    pub end_on : (c : Course) (e : Ending) → may_end_so o c e ≡ true → (k : ℕ) × (module_of c ≡ Some k)
    end_on idle e is = absurd (false≢true is)
    end_on (on_course k script last) e is = (k, refl)
    end_on (off_course k file gathered) e is = (k, refl)

    -- an end leaves what has ended as judged
    one_end : (w : ℕ) (e : Ending) (what : Carried) → IsEnabled o now (event.End w e) → Fits plan (Some start) hands past (record { event = event.End w e; carried = what }) → AreEnded plan start remote (after o now (event.End w e)) old
    unfolding after
    one_end w e what is fits number m x at ended quiet =
        let who = end_on (course_of now w) e is.3 in
        by who.0 who.1 (set_cases now.progress who.0 (Ended e) number) (subst (λ found. progress_of (ended_list found e now.progress) number ≡ Ended x) who.1 ended)
      where
        by : (k : ℕ) → module_of (course_of now w) ≡ Some k → (progress_of (set now.progress k (Ended e)) number ≡ progress_of now.progress number) ⊎ ((number ≡ k) × (progress_of (set now.progress k (Ended e)) number ≡ Ended e)) → progress_of (set now.progress k (Ended e)) number ≡ Ended x
            → ◌≡◌ {A = Verdict} (record { state = state.Ended x; outputs = outs plan old number }) (verdict_of_fetch plan (supply_of start remote old) number m (outs plan old) (missing_of plan (supply_of start remote old) m.fetch))
        by k whose (inl same) is' = behind.ended number m x at (sym same ∙ is') quiet
        by k whose (inr here) is' =
            let mine : module_of (course_of now w) ≡ Some number = whose ∙ ap (λ j. Some j) (sym here.0) in
            let alike : e ≡ x = ap ending_in (sym here.1 ∙ is') in
            let fit : FitsEnd (stood plan (Some start) past number m) (hands w) e = behind_of w number m (event.End w e) what mine at fits.1 in
            judged_end plan start remote apart present backed past behind number m at (hands w) (tells w) sized w x mine quiet
            (subst (λ y. may_end_so o (course_of now w) y ≡ true) alike is.3) (subst (λ y. ending_in_range o (course_of now w) y ≡ true) alike is.1) (subst (λ y. FitsEnd (stood plan (Some start) past number m) (hands w) y) alike fit)

    -- so does each event
    pub kept_after : (e : Event) (what : Carried) → IsEnabled o now e → Fits plan (Some start) hands past (record { event = e; carried = what }) → Holds (after o now e) (old ++ kept_by plan past e what)
    unfolding after
    kept_after (event.Start w m) what is fits = plain (event.Start w m) is (set_back now.progress m (Running w) refl)
    kept_after (event.Skip m) what is fits = plain (event.Skip m) is (set_back now.progress m Skipped refl)
    kept_after (event.Take w n mode) what is fits = plain (event.Take w n mode) is (λ u x e. e)
    kept_after (event.Free w n) what is fits = plain (event.Free w n) is (λ u x e. e)
    kept_after (event.Read w f) what is fits = plain (event.Read w f) is (λ u x e. e)
    kept_after (event.Publish w f) what is fits = plain (event.Publish w f) is (λ u x e. e)
    kept_after (event.End w e) what is fits = subst (Holds (after o now (event.End w e))) (sym (append-nil old))
        (record { begun = λ u has. begun_stays o now (event.End w e) is u (behind.kept.begun u has); had = behind.kept.had; within = behind.kept.within }, one_end w e what is fits)
    kept_after (event.Answer w g) what is fits = by what fits.0 fits.1
      where
        by : (what : Carried) → is_answered what ≡ true → FitsBehind plan (Some start) hands past (record { event = event.Answer w g; carried = what }) (Some w) → Holds (after o now (event.Answer w g)) (old ++ kept_by plan past (event.Answer w g) what)
        by carried.Nothing told fit = absurd (false≢true told)
        by (carried.Published bytes) told fit = absurd (false≢true told)
        by (carried.Answered answer) told fit =
            let on = due_on (course_of now w) (deed.Answer g) is.2 in
            let whose : module_of (course_of now w) ≡ Some on.0 = ap module_of on.3 in
            let place = place_of w on.0 whose in
            let fine : FitsAnswer (stood plan (Some start) past on.0 place.0) (hands w) g (carried.Answered answer) = behind_of w on.0 place.0 (event.Answer w g) (carried.Answered answer) whose place.1 fit in
            subst (λ found. Holds (after o now (event.Answer w g)) (old ++ option_map_or (λ m. (record { «module» = m; goal = g; answer = answer }) ∷ []) found [])) (sym whose)
            (one_answer w g answer is on.0 place.0 whose place.1 fine.0)
