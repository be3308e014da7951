-- Own files behind a run: one that is published has its module's bytes, any other the start's.
use Rattle.std.proofs.Common.{◌≡◌, ℕ, ◌⊎◌, inl, inr, Bool, true, false, ◌||◌, nat_eq, nat_lt, cond, List, [], ◌∷◌, ◌++◌, map, slice_get, Some, is_some, unwrap_or, refl, arith, sym, ap, subst, ◌∙◌}
use Rattle.std.specs.Option.{option_map_or}
use Rattle.std.specs.FinMap as finite
use Rattle.std.specs.Ordering.{eq_by_cmp, nat_cmp}
use Rattle.std.specs.Cmp.Lexicographic.{slice_cmp}
use Rattle.std.proofs.lemmas.Bool.{eq-eqb, eqb-true, false≢true}
use Rattle.mvn_shared.specs.Files.{Files, file_at}
use Rattle.build_core.specs.declared.event.Answered.{Answered}
use Rattle.event_core.specs.declared.entry.Carried.{Carried}
use Rattle.event_core.specs.declared.entry.Carried.TheVariants as carried
use Rattle.scripts.specs.declared.deed.Deed.TheVariants as deed
use Rattle.build_core.specs.declared.event.Event.{Event}
use Rattle.build_core.specs.declared.event.Event.TheVariants as event
use Rattle.scripts.specs.declared.outline.Outline.{Outline}
use Rattle.build_core.specs.declared.plan.OwnFile.{OwnFile}
use Rattle.build_core.specs.declared.plan.Plan.{Plan}
use Rattle.build_core.specs.declared.plan.PlanModule.{PlanModule}
use Rattle.event_core.specs.declared.module_steps.Progress.{Progress}
use Rattle.event_core.specs.declared.module_steps.Progress.TheVariants.{Running}
use Rattle.event_core.specs.declared.entry.RunEntry.{RunEntry}
use Rattle.run_law.specs.Closed.{total_len}
use Rattle.event_core.specs.Enabled.{Enabled, IsEnabled, is_due}
use Rattle.run_law.proofs.Invariants.{IsCourseFit, IsGathering, files_fit, is_begun, outs, pending, supply_of}
use Rattle.run_law.specs.Given.{IsPresent, is_answer, is_kept}
use Rattle.build_core.specs.OneThread.{Supply, answer_at, lacks_artifact, most_classpath, name_of}
use Rattle.scripts.specs.Outlines.{is_listed, module_outline, outline_of}
use Rattle.event_core.specs.Runs.{IsRunOf, answers_in, contents, events_of, kept_by, put_carried, standing_of_run}
use Rattle.scripts.specs.Scripts.{Script, absent, answers, fetches, frees, may_publish, publishes, reads, step, takes, wanted, whole}
use Rattle.event_core.specs.HowFar.{is_over, progress_of}
use Rattle.event_core.specs.Standing.{Standing, after, course_of, module_of, on_course, standing_of}
use Rattle.event_core.specs.Worlds as worlds
use Rattle.event_core.specs.Worlds.{AllFit, Fits, FitsBehind, FitsBytes, HandTold, is_answered, is_good, stood}
use Rattle.run_law.proofs.Carried.{at_insert, name_itself}
use Rattle.run_law.proofs.Complete.{by_entries, events_more}
use Rattle.run_law.proofs.JudgedRuns.{IsFitPlan, behind_first, behind_more}
use Rattle.run_law.proofs.Courses.{due_file}
use Rattle.run_law.proofs.Ended.{Behind, len_stays}
use Rattle.event_core.proofs.Fits.{fold_more, one_more, same_or_not}
use Rattle.run_law.proofs.RunGathering.{all_here}
use Rattle.run_law.proofs.Kept.{answers_more, other_answers, outs_at, outs_same}
use Rattle.run_law.proofs.Lates.{AreOwnsLate, IsLate, IsLateAt, is_late, late_begins, late_deed, late_pending, late_stays, owns_after, owns_first}
use Rattle.run_law.proofs.Once.{both}
use Rattle.run_law.proofs.Ready.{all_had, within_is}
use Rattle.run_law.proofs.ClosedFiles.{AreOwnsFit, IsOwnSo, IsSettled, own_at, published}
use Rattle.run_law.proofs.Step.{behind_of, place_of}
use Rattle.run_law.proofs.Stored.{AllTell, brings_of, due_on, get_map}
use Rattle.event_core.proofs.Weights.{nothing_is}
use Rattle.run_law.proofs.AllAnswered.{find_front, step_paid}
use Rattle.run_law.proofs.Paid.{ArePaid, IsPaid, paid_first}
use Rattle.run_law.proofs.Owed.{owes}
use Rattle.build_core.specs.Slots.{kept_of, run_goals}
use Rattle.goal_types.specs.declared.goal.GoalAnswer.{GoalAnswer}
use Rattle.run_law.proofs.Basics.{or_false, or_true}
use Rattle.std.proofs.lemmas.List.{append-nil}

-- a test of three in two ways
or_assoc : (a b c : Bool) → (a || (b || c)) ≡ ((a || b) || c)
or_assoc true b c = refl
or_assoc false b c = refl

-- what was published behind one entry more
pub published_more : (past : List RunEntry) (e : RunEntry) (f : ℕ) → published (past ++ e ∷ []) f ≡ (published past f || worlds.publishes f e.event)
published_more [] e f = or_false (worlds.publishes f e.event)
published_more (p ∷ past) e f = ap (λ b. worlds.publishes f p.event || b) (published_more past e f) ∙ or_assoc (worlds.publishes f p.event) (published past f) (worlds.publishes f e.event)

-- what a script is to fetch is fetched
wanted_fetch : (fetch own : List ℕ) (s : Script) (f : ℕ) → files_fit fetch own s ≡ true → wanted s ≡ Some f → is_listed f fetch ≡ true
wanted_fetch fetch own whole f fits is = absurd (nothing_is f is)
wanted_fetch fetch own (absent files this that) f fits is = absurd (nothing_is f is)
wanted_fetch fetch own (step stage (fetches g) rest) f fits is = subst (λ x. is_listed x fetch ≡ true) (ap (λ o. unwrap_or o 0) is) (both (is_listed g fetch) (files_fit fetch own rest) fits).0
wanted_fetch fetch own (step stage (publishes g) rest) f fits is = absurd (nothing_is f is)
wanted_fetch fetch own (step stage (may_publish g) rest) f fits is = absurd (nothing_is f is)
wanted_fetch fetch own (step stage frees rest) f fits is = absurd (nothing_is f is)
wanted_fetch fetch own (step stage (takes m n) rest) f fits is = absurd (nothing_is f is)
wanted_fetch fetch own (step stage (reads g) rest) f fits is = absurd (nothing_is f is)
wanted_fetch fetch own (step stage (answers g) rest) f fits is = absurd (nothing_is f is)

-- a late module has begun
pub late_begun : (now : Standing) (number : ℕ) → IsLateAt now number → is_begun (progress_of now.progress number) ≡ true
late_begun now number (inl a) = ap is_begun a.1
late_begun now number (inr b) = ap is_begun b.1

abbrev runs_by : Progress → ℕ
runs_by (Running w) = w
runs_by other = 0

-- numbers that differ are told apart
pub not_same : (k u : ℕ) → (k ≡ u → ⊥) → nat_eq k u ≡ false
not_same k u other = by (nat_eq k u) refl
  where
    by : (b : Bool) → nat_eq k u ≡ b → nat_eq k u ≡ false
    by false e = e
    by true e = absurd (other (eqb-true k u e))

-- a script of own files alone owes no answer
late_owes : (s : Script) → is_late s ≡ true → (h : ℕ) → owes h s ≡ false
late_owes whole is h = refl
late_owes (absent files this that) is h = absurd (false≢true is)
late_owes (step stage (publishes f) rest) is h = late_owes rest is h
late_owes (step stage (may_publish f) rest) is h = late_owes rest is h
late_owes (step stage frees rest) is h = late_owes rest is h
late_owes (step stage (fetches f) rest) is h = absurd (false≢true is)
late_owes (step stage (takes m n) rest) is h = absurd (false≢true is)
late_owes (step stage (reads f) rest) is h = absurd (false≢true is)
late_owes (step stage (answers g) rest) is h = absurd (false≢true is)

module _ (plan : Plan) (start remote : Files) (fit : IsFitPlan plan) (present : IsPresent plan start) (owns : AreOwnsFit plan) (hands : ℕ → HandTold) (tell : AllTell plan (supply_of start remote []) fit.differ fit.own present hands) where
  abbrev o : Outline
  o = outline_of plan

  abbrev base : Supply
  base = supply_of start remote []

  abbrev IsBehind : List RunEntry → Type 0
  IsBehind past = Behind plan start remote fit.apart present fit.backed past

  abbrev Fact : Standing → Files → List Answered → ℕ → ℕ → PlanModule → Bool → Type 0
  Fact now files kept number f m true = IsLateAt now number × (m.installs ≡ true) × (nat_lt most_classpath (total_len plan base (outs plan kept) m.entries) ≡ false) × (file_at files (name_of plan f) ≡ own_at m (outs plan kept number) f) × (is_some (file_at files (name_of plan f)) ≡ true) × IsSettled plan base kept number m
  Fact now files kept number f m false = file_at files (name_of plan f) ≡ file_at start (name_of plan f)

  abbrev AreFacts : Standing → Files → List Answered → (ℕ → Bool) → Type 0
  AreFacts now files kept done = (number f : ℕ) (m : PlanModule) → slice_get plan.modules number ≡ Some m → is_listed f (map (λ (x : OwnFile). x.file) m.own) ≡ true → Fact now files kept number f m (done f)

  module _ (past : List RunEntry) (behind : IsBehind past) (lates : AreOwnsLate o (standing_of_run plan past)) (paid : ArePaid o (is_kept (answers_in plan past)) (standing_of_run plan past)) (facts : AreFacts (standing_of_run plan past) (contents plan start past) (answers_in plan past) (published past)) where
    abbrev now : Standing
    now = standing_of_run plan past

    abbrev files : Files
    files = contents plan start past

    abbrev old : List Answered
    old = answers_in plan past

    -- what an event leaves as it is
    stays : (e : Event) → IsEnabled o now e → (more : Files) (later : List Answered) (number f : ℕ) (m : PlanModule) → slice_get plan.modules number ≡ Some m → file_at more (name_of plan f) ≡ file_at files (name_of plan f)
        → ((u : ℕ) → is_over (progress_of now.progress u) ≡ true → answer_at later u ≡ answer_at old u) → (IsLateAt now number → answer_at later number ≡ answer_at old number) → ((g : ℕ) → is_kept old number g ≡ true → is_kept later number g ≡ true)
        → (b : Bool) → Fact now files old number f m b → Fact (after o now e) more later number f m b
    stays e is more later number f m at same over mine grows false fact = same ∙ fact
    stays e is more later number f m at same over mine grows true fact = (
      late_stays o now e behind.standing is number fact.0,
      fact.1,
      subst (λ n. nat_lt most_classpath n ≡ false) (sym (len_stays plan start remote fit.apart present fit.backed now old later behind.ordered over number m at (late_begun now number fact.0))) fact.2,
      same ∙ fact.3 ∙ sym (ap (λ own. own_at m own f) (outs_same plan old later number (mine fact.0))),
      ap is_some same ∙ fact.4,
      record {
        had = fact.5.had;
        good = ap (λ (said : ℕ → GoalAnswer). is_good (run_goals m.budget said 0 m.goals [])) (mine fact.0) ∙ fact.5.good;
        artifact = ap (λ (said : ℕ → GoalAnswer). lacks_artifact m (kept_of (run_goals m.budget said 0 m.goals []))) (mine fact.0) ∙ fact.5.artifact;
        answered = λ g low. grows g (fact.5.answered g low);
      },
    )

    abbrev After : Event → Carried → Type 0
    After e what = AreFacts (after o now e) (put_carried plan files e what) (old ++ kept_by plan past e what) (λ f. published past f || worlds.publishes f e)

    -- no publish and no answer
    plain : (e : Event) → IsEnabled o now e → AreFacts (after o now e) files (old ++ []) (λ f. published past f || false)
    plain e is number f m at mine =
        subst (Fact (after o now e) files (old ++ []) number f m) (sym (or_false (published past f)))
        (subst (λ kept. Fact (after o now e) files kept number f m (published past f)) (sym (append-nil old))
        (stays e is files old number f m at refl (λ u over. refl) (λ late. refl) (λ g has. has) (published past f) (facts number f m at mine)))

    -- a late module gets no answer
    answers_none : (w g k : ℕ) → IsEnabled o now (event.Answer w g) → module_of (course_of now w) ≡ Some k → IsLateAt now k → ⊥
    answers_none w g k is whose (inl a) =
        let same : w ≡ a.0 = ap runs_by (sym (behind.standing.tied.busy w k whose) ∙ a.1) in
        false≢true (late_deed now.there [] (deed.Answer g) (course_of now w) (subst (λ v. IsLate (course_of now v)) (sym same) a.2) is.2).0
    answers_none w g k is whose (inr b) = false≢true (sym (ap is_over (behind.standing.tied.busy w k whose)) ∙ ap is_over b.1)

    -- an answer leaves how own files stand
    answered : (w g : ℕ) (what : Carried) → IsEnabled o now (event.Answer w g) → Fits plan (Some start) hands past (record { event = event.Answer w g; carried = what }) → After (event.Answer w g) what
    answered w g what is fits = by what fits.0
      where
        by : (what : Carried) → is_answered what ≡ true → After (event.Answer w g) what
        by carried.Nothing told = absurd (false≢true told)
        by (carried.Published bytes) told = absurd (false≢true told)
        by (carried.Answered answer) told =
            let on = due_on (course_of now w) (deed.Answer g) is.2 in
            let whose : module_of (course_of now w) ≡ Some on.0 = ap module_of on.3 in
            subst (λ found. AreFacts (after o now (event.Answer w g)) files (old ++ option_map_or (λ m. (record { «module» = m; goal = g; answer = answer }) ∷ []) found []) (λ f. published past f || false)) (sym whose) (one on.0 whose)
          where
            one : (k : ℕ) → module_of (course_of now w) ≡ Some k → AreFacts (after o now (event.Answer w g)) files (old ++ (record { «module» = k; goal = g; answer = answer }) ∷ []) (λ f. published past f || false)
            one k whose number f m at mine =
                subst (Fact (after o now (event.Answer w g)) files (old ++ new ∷ []) number f m) (sym (or_false (published past f)))
                (stays (event.Answer w g) is files (old ++ new ∷ []) number f m at refl
                (λ u over. other_answers old new u (not_same k u (λ e. false≢true (sym (ap is_over (behind.standing.tied.busy w k whose)) ∙ subst (λ x. is_over (progress_of now.progress x) ≡ true) (sym e) over))))
                (λ late. other_answers old new number (not_same k number (λ e. answers_none w g k is whose (subst (IsLateAt now) (sym e) late))))
                (λ g has. find_front (is_answer number g) old (new ∷ []) has)
                (published past f) (facts number f m at mine))
              where
                new : Answered
                new = record { «module» = k; goal = g; answer = answer }

    module _ (w g : ℕ) (bytes : List ℕ) (is : IsEnabled o now (event.Publish w g)) (fits : Fits plan (Some start) hands past (record { event = event.Publish w g; carried = carried.Published bytes })) where
      abbrev more : Files
      more = finite.insert files (name_of plan g) bytes

      -- another file
      another : (number f : ℕ) (m : PlanModule) → slice_get plan.modules number ≡ Some m → is_listed f (map (λ (x : OwnFile). x.file) m.own) ≡ true → (f ≡ g → ⊥) → Fact (after o now (event.Publish w g)) more old number f m (published past f)
      another number f m at mine other =
          stays (event.Publish w g) is more old number f m at (at_insert files (name_of plan g) bytes (name_of plan f) ∙ ap (λ b. cond b (Some bytes) (file_at files (name_of plan f))) (by (eq_by_cmp (slice_cmp nat_cmp) (name_of plan f) (name_of plan g)) refl)) (λ u over. refl) (λ late. refl) (λ g has. has) (published past f) (facts number f m at mine)
        where
          by : (b : Bool) → eq_by_cmp (slice_cmp nat_cmp) (name_of plan f) (name_of plan g) ≡ b → eq_by_cmp (slice_cmp nat_cmp) (name_of plan f) (name_of plan g) ≡ false
          by false e = e
          by true e = absurd (other (fit.differ f g (owns.low f (number, m, at, mine)) (let sized = fit.sized in omega (arith, is.1, sized)) e))

      -- an own file of the worker's module
      this : (number : ℕ) (m : PlanModule) → slice_get plan.modules number ≡ Some m → is_listed g (map (λ (x : OwnFile). x.file) m.own) ≡ true → Fact (after o now (event.Publish w g)) more old number g m true
      this number m at mine =
          let on = due_on (course_of now w) (deed.Publish g) is.2 in
          let place = place_of plan start remote fit.apart present fit.backed fit.sized hands (λ w. (tell w).1) past behind w on.0 (ap module_of on.3) in
          let course : IsCourseFit o (on_course on.0 on.1 on.2) = subst (IsCourseFit o) on.3 (behind.courses.courses w) in
          let all = course.0 (module_outline place.0) (get_map module_outline plan.modules on.0 place.0 place.1) in
          whole_fact (ap module_of on.3 ∙ ap (λ k. Some k) (split on.0 place.0 place.1 on.1 (due_file place.0.fetch (map (λ (x : OwnFile). x.file) place.0.own) on.1 g all (subst (λ c. is_due c (deed.Publish g) ≡ true) on.3 is.2))))
        where
          split : (k : ℕ) (n : PlanModule) → slice_get plan.modules k ≡ Some n → (script : Script) → ((wanted script ≡ Some g) × (is_listed g n.fetch ≡ true)) ⊎ (is_listed g (map (λ (x : OwnFile). x.file) n.own) ≡ true) → k ≡ number
          split k n here script (inl fetch) = absurd (fit.own g (k, n, here, fetch.1) (number, m, at, mine))
          split k n here script (inr own) = owns.owner g k number n m here at own mine

          whole_fact : module_of (course_of now w) ≡ Some number → Fact (after o now (event.Publish w g)) more old number g m true
          whole_fact whose =
              let out = get_map module_outline plan.modules number m at in
              let late = late_begins o now w g number (module_outline m) behind.standing lates is whose out
              (λ script last e want.
              let course : IsCourseFit o (on_course number script last) = subst (IsCourseFit o) e (behind.courses.courses w) in
              fit.own g (number, m, at, wanted_fetch m.fetch (map (λ (x : OwnFile). x.file) m.own) script g (course.0 (module_outline m) out) want) (number, m, at, mine)) in
              let on = due_on (course_of now w) (deed.Publish g) is.2 in
              let same : on.0 ≡ number = ap (λ x. unwrap_or x 0) (sym (ap module_of on.3) ∙ whose) in
              let course : course_of now w ≡ on_course number on.1 on.2 = on.3 ∙ ap (λ k. on_course k on.1 on.2) same in
              let gather : IsGathering o now.there (on_course number on.1 on.2) = subst (IsGathering o now.there) course (behind.gathering w) in
              let all = all_here now.there m.fetch (pending on.1) (gather (module_outline m) out).1 (late_pending on.1 (late.2 on.1 on.2 course)) in
              let told = behind_of plan start remote fit.apart present fit.backed fit.sized hands (λ w. (tell w).1) past behind w number m (event.Publish w g) (carried.Published bytes) whose at fits.1 in
              let area = subst (λ b. FitsBytes b (is_listed g m.fetch) (stood plan (Some start) past number m) (hands w) g (carried.Published bytes)) (tell w).0 told in
              let fine : FitsBytes true false (stood plan (Some start) past number m) (hands w) g (carried.Published bytes) = subst (λ b. FitsBytes true b (stood plan (Some start) past number m) (hands w) g (carried.Published bytes)) (unfetched (is_listed g m.fetch) refl) area in
              let here : file_at more (name_of plan g) ≡ Some bytes = at_insert files (name_of plan g) bytes (name_of plan g) ∙ ap (λ b. cond b (Some bytes) (file_at files (name_of plan g))) (name_itself (name_of plan g)) in (
                late.0,
                late.1,
                within_is plan start remote fit.apart number m at (fit.backed number m at) past behind.stored all fine.0.0,
                here ∙ sym fine.1 ∙ sym (ap (λ own. own_at m own g) (outs_at plan old number m at)),
                ap is_some here,
                record {
                  had = all_had plan start remote fit.apart number m at (fit.backed number m at) past behind.stored all [];
                  good = fine.0.1;
                  artifact = fine.0.2;
                  answered = λ h low.
                      let due : IsPaid o (is_kept old) (on_course number on.1 on.2) = subst (IsPaid o (is_kept old)) course (paid.courses w) in
                      (due (module_outline m) out).1 h low (late_owes on.1 (late.2 on.1 on.2 course) h);
                },
              )
            where
              unfetched : (b : Bool) → is_listed g m.fetch ≡ b → is_listed g m.fetch ≡ false
              unfetched false e = e
              unfetched true e = absurd (fit.own g (number, m, at, e) (number, m, at, mine))

      -- and so does a publish
      published_one : AreFacts (after o now (event.Publish w g)) more (old ++ []) (λ f. published past f || nat_eq g f)
      published_one number f m at mine = subst (λ kept. Fact (after o now (event.Publish w g)) more kept number f m (published past f || nat_eq g f)) (sym (append-nil old)) (by (same_or_not f g))
        where
          by : (f ≡ g) ⊎ ((f ≡ g) → ⊥) → Fact (after o now (event.Publish w g)) more old number f m (published past f || nat_eq g f)
          by (inl e) =
              subst (Fact (after o now (event.Publish w g)) more old number f m) (sym (ap (λ b. published past f || b) (eq-eqb g f (sym e)) ∙ or_true (published past f)))
              (subst (λ x. Fact (after o now (event.Publish w g)) more old number x m true) (sym e) (this number m at (subst (λ x. is_listed x (map (λ (x : OwnFile). x.file) m.own) ≡ true) e mine)))
          by (inr other) =
              subst (Fact (after o now (event.Publish w g)) more old number f m) (sym (ap (λ b. published past f || b) (not_same g f (λ e. other (sym e))) ∙ or_false (published past f)))
              (another number f m at mine other)

    -- so does each event
    facts_after : (e : Event) (what : Carried) → IsEnabled o now e → Fits plan (Some start) hands past (record { event = e; carried = what }) → After e what
    facts_after (event.Start w m) what is fits = plain (event.Start w m) is
    facts_after (event.Skip m) what is fits = plain (event.Skip m) is
    facts_after (event.Take w n mode) what is fits = plain (event.Take w n mode) is
    facts_after (event.Free w n) what is fits = plain (event.Free w n) is
    facts_after (event.Read w f) what is fits = plain (event.Read w f) is
    facts_after (event.Answer w g) what is fits = answered w g what is fits
    facts_after (event.End w x) what is fits = plain (event.End w x) is
    facts_after (event.Publish w f) what is fits =
        let b = brings_of plan base fit.differ fit.own present hands tell past (event.Publish w f) what fits in
        subst (After (event.Publish w f)) (sym b.1) (published_one w f b.0 is (subst (λ c. Fits plan (Some start) hands past (record { event = event.Publish w f; carried = c })) b.1 fits))

  abbrev IsAll : List RunEntry → Type 0
  IsAll past = IsBehind past × AreOwnsLate o (standing_of_run plan past) × ArePaid o (is_kept (answers_in plan past)) (standing_of_run plan past) × AreFacts (standing_of_run plan past) (contents plan start past) (answers_in plan past) (published past)

  -- so behind one entry more
  all_more : (past : List RunEntry) (e : RunEntry) → IsAll past → Enabled o (events_of past) e.event → Fits plan (Some start) hands past e → IsAll (past ++ e ∷ [])
  unfolding Enabled
  all_more past e holds is fits =
      let next : standing_of_run plan (past ++ e ∷ []) ≡ after o (standing_of_run plan past) e.event = ap (standing_of o) (events_more past e) ∙ one_more o (events_of past) e.event in
      let files : contents plan start (past ++ e ∷ []) ≡ put_carried plan (contents plan start past) e.event e.carried = fold_more (λ files (x : RunEntry). put_carried plan files x.event x.carried) past start e in
      let facts = facts_after past holds.0 holds.1 holds.2 holds.3 e.event e.carried is fits in (
        behind_more plan start remote fit present hands tell past e holds.0 is fits,
        subst (AreOwnsLate o) (sym next) (owns_after o (standing_of_run plan past) e.event holds.1),
        step_paid plan start hands past e holds.2 is fits,
        λ number f m at mine.
            subst (λ now. Fact now (contents plan start (past ++ e ∷ [])) (answers_in plan (past ++ e ∷ [])) number f m (published (past ++ e ∷ []) f)) (sym next)
            (subst (λ files. Fact (after o (standing_of_run plan past) e.event) files (answers_in plan (past ++ e ∷ [])) number f m (published (past ++ e ∷ []) f)) (sym files)
            (subst (λ kept. Fact (after o (standing_of_run plan past) e.event) (put_carried plan (contents plan start past) e.event e.carried) kept number f m (published (past ++ e ∷ []) f)) (sym (answers_more plan past e))
            (subst (Fact (after o (standing_of_run plan past) e.event) (put_carried plan (contents plan start past) e.event e.carried) (answers_in plan past ++ kept_by plan past e.event e.carried) number f m) (sym (published_more past e f)) (facts number f m at mine)))),
      )

  -- so behind every fitting run
  pub own_facts : (entries : List RunEntry) → IsRunOf plan entries → AllFit plan (Some start) hands [] entries → IsAll entries
  own_facts entries run fits = by_entries plan start hands IsAll all_more [] entries (behind_first plan start remote fit present hands tell, owns_first o, paid_first o (is_kept []), λ number f m at mine. refl) run fits

  -- own files behind a run
  pub own_so : (entries : List RunEntry) → IsRunOf plan entries → AllFit plan (Some start) hands [] entries → IsOwnSo plan start remote entries
  own_so entries run fits =
      let all = (own_facts entries run fits).3 in
      let yes : (number f : ℕ) (m : PlanModule) → slice_get plan.modules number ≡ Some m → is_listed f (map (λ (x : OwnFile). x.file) m.own) ≡ true → published entries f ≡ true → Fact (standing_of_run plan entries) (contents plan start entries) (answers_in plan entries) number f m true =
      λ number f m at mine done. subst (Fact (standing_of_run plan entries) (contents plan start entries) (answers_in plan entries) number f m) done (all number f m at mine) in
      record {
        settled = λ number f m at mine done. (yes number f m at mine done).5;
        late = λ number f m at mine done. let y = yes number f m at mine done in (y.0, y.1);
        within = λ number f m at mine done. (yes number f m at mine done).2;
        bytes = λ number f m at mine done. let y = yes number f m at mine done in (y.3, y.4);
        fresh = λ f own not. subst (Fact (standing_of_run plan entries) (contents plan start entries) (answers_in plan entries) own.0 f own.1) not (all own.0 f own.1 own.2 own.3);
      }
