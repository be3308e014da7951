-- The repository behind a complete, quiet run stands as the closed form says.
use Rattle.std.proofs.Common.{◌≡◌, ℕ, ◌<◌, ◌⊎◌, inl, inr, Bool, true, false, not, ◌||◌, ◌&&◌, nat_eq, nat_lt, cond, find, set, List, [], ◌∷◌, ◌++◌, length, map, slice_get, Option, Some, None, is_some, option_and_then, refl, arith, sym, ap, subst, ◌∙◌, if◌then◌else◌}
use Rattle.std.specs.List.{list_all}
use Rattle.std.specs.Option.{option_map_or, option_or}
use Rattle.std.specs.Ordering.{eq_by_cmp, nat_cmp}
use Rattle.std.specs.Cmp.Lexicographic.{slice_cmp}
use Rattle.std.proofs.lemmas.Bool.{eqb-true, false≢true}
use Rattle.mvn_shared.specs.Files.{Files, file_at}
use Rattle.build_core.specs.declared.event.Answered.{Answered}
use Rattle.event_core.specs.declared.entry.Carried.{Carried}
use Rattle.event_core.specs.declared.entry.Carried.TheVariants as carried
use Rattle.scripts.specs.declared.deed.Deed.TheVariants as deed
use Rattle.build_core.specs.declared.ending.Ending.{Ending}
use Rattle.build_core.specs.declared.ending.Ending.TheVariants as ending
use Rattle.build_core.specs.declared.event.Event.{Event}
use Rattle.build_core.specs.declared.event.Event.TheVariants as event
use Rattle.scripts.specs.declared.outline.Outline.{Outline}
use Rattle.goal_types.specs.declared.goal.OwnBytes.{OwnBytes}
use Rattle.build_core.specs.declared.plan.OwnFile.{OwnFile}
use Rattle.build_core.specs.declared.plan.Plan.{Plan}
use Rattle.build_core.specs.declared.plan.PlanModule.{PlanModule}
use Rattle.event_core.specs.declared.module_steps.Progress.{Progress}
use Rattle.event_core.specs.declared.module_steps.Progress.TheVariants.{Waiting, Running, Skipped, Ended}
use Rattle.event_core.specs.declared.entry.RunEntry.{RunEntry}
use Rattle.build_core.specs.declared.ending.State.{State}
use Rattle.build_core.specs.declared.ending.State.TheVariants as state
use Rattle.run_law.specs.Closed.{Verdict, had_prefix, missing_of, total_len, verdict_of_fetch, verdict_of_goals, verdict_of_install}
use Rattle.event_core.specs.Enabled.{Enabled, IsEnabled, is_due}
use Rattle.run_law.proofs.Invariants.{IsCourseFit, IsFetchFile, IsOwnFile, is_begun, is_quiet_end, outs, supply_of}
use Rattle.run_law.specs.Given.{IsPresent}
use Rattle.build_core.specs.OneThread.{Supply, answer_at, is_built, lacks_artifact, most_classpath, name_of, own_bytes}
use Rattle.scripts.specs.Outlines.{is_listed, module_outline, outline_of}
use Rattle.event_core.specs.Runs.{IsComplete, IsQuiet, IsRunOf, answers_in, contents, events_of, goals_in, kept_by, put_carried, standing_of_run}
use Rattle.scripts.specs.Scripts.{Script, is_there, wanted}
use Rattle.build_core.specs.Slots.{GoalsEnd, all_answered, goal_failed, kept_of, output_too_large, run_goals}
use Rattle.event_core.specs.HowFar.{is_done, is_over, progress_of, state_of}
use Rattle.event_core.specs.Standing.{Standing, after, course_of, ended, module_of, on_course, standing_of}
use Rattle.event_core.specs.Worlds as worlds
use Rattle.event_core.specs.Worlds.{AllFit, Fits, FitsEnd, HandTold, stood}
use Rattle.run_law.proofs.Carried.{at_insert}
use Rattle.run_law.proofs.Complete.{all_over, by_entries, events_more}
use Rattle.run_law.proofs.JudgedRuns.{IsFitPlan, behind_first, behind_more, built_is, ended_or, quiet_all, waits_on}
use Rattle.run_law.proofs.Courses.{due_file}
use Rattle.run_law.proofs.Ended.{Behind, set_cases}
use Rattle.run_law.proofs.Fetches.{fetched_so, is_end, prefix_listed}
use Rattle.event_core.proofs.Fits.{fold_more, one_more}
use Rattle.run_law.proofs.Fold.{in_list}
use Rattle.run_law.proofs.Kept.{answers_more, other_answers, outs_at, outs_same}
use Rattle.run_law.proofs.Lates.{IsLateAt, is_late_end}
use Rattle.run_law.proofs.Once.{both}
use Rattle.run_law.proofs.Owns.{not_same, own_so, published_more}
use Rattle.run_law.proofs.ClosedFiles.{AreOwnsFit, IsLeft, IsOwnSo, is_skipped_state, own_at, published}
use Rattle.run_law.proofs.Step.{behind_of, end_on, place_of}
use Rattle.run_law.proofs.Stored.{AllTell, due_on, get_map, length_map}
use Rattle.run_law.proofs.Basics.{and_is, or_left}
use Rattle.std.proofs.lemmas.List.{append-nil}

-- each of these own files that has bytes is done
abbrev pub all_put : PlanModule → List OwnBytes → (ℕ → Bool) → List OwnFile → Bool
all_put m own done list = list_all (λ (o : OwnFile). not (is_some (own_bytes m own o.slot)) || done o.file) list

-- a test of two goes over where the second implies another
or_map : (a b c : Bool) → (a || b) ≡ true → (b ≡ true → c ≡ true) → (a || c) ≡ true
or_map true b c h f = refl
or_map false b c h f = f h

-- what is all put stays so as more is
put_more : (m : PlanModule) (own : List OwnBytes) (done more : ℕ → Bool) → ((f : ℕ) → done f ≡ true → more f ≡ true) → (list : List OwnFile) → all_put m own done list ≡ true → all_put m own more list ≡ true
put_more m own done more grows [] all = refl
put_more m own done more grows (o ∷ list) all =
    let parts = both (not (is_some (own_bytes m own o.slot)) || done o.file) (all_put m own done list) all in
    and_is (not (is_some (own_bytes m own o.slot)) || more o.file) (all_put m own more list)
    (or_map (not (is_some (own_bytes m own o.slot))) (done o.file) (more o.file) parts.0 (grows o.file)) (put_more m own done more grows list parts.1)

-- a file that isn't done has no bytes
put_none : (m : PlanModule) (own : List OwnBytes) (done : ℕ → Bool) (f : ℕ) → done f ≡ false → (list : List OwnFile) → all_put m own done list ≡ true → option_and_then (λ (o : OwnFile). own_bytes m own o.slot) (find (λ (o : OwnFile). nat_eq o.file f) list) ≡ None
put_none m own done f not_done [] all = refl
put_none m own done f not_done (o ∷ list) all = by (nat_eq o.file f) refl (λ rest. put_none m own done f not_done list rest)
  where
    parts : ((not (is_some (own_bytes m own o.slot)) || done o.file) ≡ true) × (all_put m own done list ≡ true)
    parts = both (not (is_some (own_bytes m own o.slot)) || done o.file) (all_put m own done list) all

    none : (bytes : Option (List ℕ)) → (not (is_some bytes) || done o.file) ≡ true → done o.file ≡ false → bytes ≡ None
    none None is no_done = refl
    none (Some bytes) is no_done = absurd (false≢true (sym no_done ∙ is))

    by : (b : Bool) → nat_eq o.file f ≡ b → (all_put m own done list ≡ true → option_and_then (λ (o : OwnFile). own_bytes m own o.slot) (find (λ (o : OwnFile). nat_eq o.file f) list) ≡ None) → option_and_then (λ (o : OwnFile). own_bytes m own o.slot) (if b then Some o else find (λ (o : OwnFile). nat_eq o.file f) list) ≡ None
    by true e again = none (own_bytes m own o.slot) parts.0 (ap done (eqb-true o.file f e) ∙ not_done)
    by false e again = again parts.1

-- ---- an ending within the limit

abbrev is_large : State → Bool
is_large (state.Ended ending.ClasspathTooLarge) = true
is_large other = false

-- a classpath within the limit isn't judged too large
not_large : (plan : Plan) (supply : Supply) (number : ℕ) (m : PlanModule) (outputs : ℕ → List OwnBytes) (missing : Option ℕ) → nat_lt most_classpath (total_len plan supply outputs m.entries) ≡ false → is_large (verdict_of_fetch plan supply number m outputs missing).state ≡ false
not_large plan supply number m outputs (Some f) is = refl
not_large plan supply number m outputs None is = by (nat_lt most_classpath (total_len plan supply outputs m.entries)) is (run_goals m.budget (supply.answers number) 0 m.goals [])
  where
    goals : (end : GoalsEnd) → is_large (verdict_of_goals m end).state ≡ false
    goals (goal_failed i own) = refl
    goals (output_too_large i own) = refl
    goals (all_answered own) = at m.installs (lacks_artifact m own)
      where
        at : (installs lacks : Bool) → is_large (verdict_of_install installs lacks own).state ≡ false
        at true true = refl
        at true false = refl
        at false lacks = refl

    by : (b : Bool) → b ≡ false → (end : GoalsEnd) → is_large (if b then record { state = state.Ended ending.ClasspathTooLarge; outputs = [] } else verdict_of_goals m end).state ≡ false
    by true e end = absurd (false≢true (sym e))
    by false e end = goals end

module _ (plan : Plan) (start remote : Files) (fit : IsFitPlan plan) (present : IsPresent plan start) (owns : AreOwnsFit plan) (hands : ℕ → HandTold) (tell : AllTell plan (supply_of start remote []) fit.differ fit.own present hands) where
  abbrev o : Outline
  o = outline_of plan

  abbrev base : Supply
  base = supply_of start remote []

  abbrev IsBehind : List RunEntry → Type 0
  IsBehind past = Behind plan start remote fit.apart present fit.backed past

  -- a module that was built and installs has all its files published
  abbrev AreInstalled : Standing → List Answered → (ℕ → Bool) → Type 0
  AreInstalled now kept done = (number : ℕ) (m : PlanModule) → slice_get plan.modules number ≡ Some m → progress_of now.progress number ≡ Ended ending.Built → (not m.installs || all_put m (outs plan kept number) done m.own) ≡ true

  -- a file that is neither fetched nor installed stays
  abbrev pub AreNeither : Files → Type 0
  AreNeither files = (f : ℕ) → f < length plan.files → (IsFetchFile plan f → ⊥) → (IsOwnFile plan f → ⊥) → file_at files (name_of plan f) ≡ file_at start (name_of plan f)

  module _ (past : List RunEntry) (behind : IsBehind past) (installed : AreInstalled (standing_of_run plan past) (answers_in plan past) (published past)) (neither : AreNeither (contents plan start past)) where
    abbrev now : Standing
    now = standing_of_run plan past

    abbrev files : Files
    files = contents plan start past

    abbrev old : List Answered
    old = answers_in plan past

    -- what is over gets no answer
    over_answers : (e : Event) (what : Carried) → IsEnabled o now e → (u : ℕ) → is_over (progress_of now.progress u) ≡ true → answer_at (old ++ kept_by plan past e what) u ≡ answer_at old u
    over_answers (event.Start w m) what is u over = ap (λ kept. answer_at kept u) (append-nil old)
    over_answers (event.Skip m) what is u over = ap (λ kept. answer_at kept u) (append-nil old)
    over_answers (event.Take w n mode) what is u over = ap (λ kept. answer_at kept u) (append-nil old)
    over_answers (event.Free w n) what is u over = ap (λ kept. answer_at kept u) (append-nil old)
    over_answers (event.Read w f) what is u over = ap (λ kept. answer_at kept u) (append-nil old)
    over_answers (event.Publish w f) what is u over = ap (λ kept. answer_at kept u) (append-nil old)
    over_answers (event.End w x) what is u over = ap (λ kept. answer_at kept u) (append-nil old)
    over_answers (event.Answer w g) carried.Nothing is u over = ap (λ kept. answer_at kept u) (append-nil old)
    over_answers (event.Answer w g) (carried.Published bytes) is u over = ap (λ kept. answer_at kept u) (append-nil old)
    over_answers (event.Answer w g) (carried.Answered answer) is u over =
        let on = due_on (course_of now w) (deed.Answer g) is.2 in
        let whose : module_of (course_of now w) ≡ Some on.0 = ap module_of on.3 in
        ap (λ found. answer_at (old ++ option_map_or (λ m. (record { «module» = m; goal = g; answer = answer }) ∷ []) found []) u) whose
        ∙ other_answers old (record { «module» = on.0; goal = g; answer = answer }) u (not_same on.0 u (λ e. false≢true (sym (ap is_over (behind.standing.tied.busy w on.0 whose)) ∙ subst (λ x. is_over (progress_of now.progress x) ≡ true) (sym e) over)))

    -- a module that was built stays so, with what it kept
    was_built : (e : Event) (what : Carried) → IsEnabled o now e → (number : ℕ) (m : PlanModule) → slice_get plan.modules number ≡ Some m → progress_of now.progress number ≡ Ended ending.Built
        → (not m.installs || all_put m (outs plan (old ++ kept_by plan past e what) number) (λ f. published past f || worlds.publishes f e) m.own) ≡ true
    was_built e what is number m at built =
        or_map (not m.installs) (all_put m (outs plan old number) (published past) m.own) (all_put m (outs plan (old ++ kept_by plan past e what) number) (λ f. published past f || worlds.publishes f e) m.own) (installed number m at built)
        (λ all. subst (λ own. all_put m own (λ f. published past f || worlds.publishes f e) m.own ≡ true) (sym (outs_same plan old (old ++ kept_by plan past e what) number (over_answers e what is number (ap is_over built))))
        (put_more m (outs plan old number) (published past) (λ f. published past f || worlds.publishes f e) (λ f done. or_left (published past f) (worlds.publishes f e) done) m.own all))

    abbrev IsBuiltSo : Event → Carried → Type 0
    IsBuiltSo e what = AreInstalled (after o now e) (old ++ kept_by plan past e what) (λ f. published past f || worlds.publishes f e)

    -- an event that is no end builds no module
    plain : (e : Event) (what : Carried) → IsEnabled o now e → is_end plan start remote fit present hands tell e ≡ false → IsBuiltSo e what
    plain e what is isnt number m at built = by (ended_or o now e number ending.Built built)
      where
        by : (progress_of now.progress number ≡ Ended ending.Built) ⊎ ((w : ℕ) × (e ≡ event.End w ending.Built)) → (not m.installs || all_put m (outs plan (old ++ kept_by plan past e what) number) (λ f. published past f || worlds.publishes f e) m.own) ≡ true
        by (inl was) = was_built e what is number m at was
        by (inr new) = absurd (false≢true (sym isnt ∙ ap (is_end plan start remote fit present hands tell) new.1))

    -- a module that ends as built has all its own files put
    ends : (w : ℕ) (x : Ending) (what : Carried) → IsEnabled o now (event.End w x) → Fits plan (Some start) hands past (record { event = event.End w x; carried = what }) → IsBuiltSo (event.End w x) what
    unfolding after
    ends w x what is fits number m at built =
        let who = end_on plan start remote fit.apart present fit.backed fit.sized hands (λ w. (tell w).1) past behind (course_of now w) x is.3 in
        by who.0 who.1 (set_cases now.progress who.0 (Ended x) number) (subst (λ found. progress_of (ended found x now.progress) number ≡ Ended ending.Built) who.1 built)
      where
        ending_in : Progress → Ending
        ending_in (Ended e) = e
        ending_in other = ending.Memory

        by : (k : ℕ) → module_of (course_of now w) ≡ Some k → (progress_of (set now.progress k (Ended x)) number ≡ progress_of now.progress number) ⊎ ((number ≡ k) × (progress_of (set now.progress k (Ended x)) number ≡ Ended x)) → progress_of (set now.progress k (Ended x)) number ≡ Ended ending.Built
            → (not m.installs || all_put m (outs plan (old ++ []) number) (λ f. published past f || false) m.own) ≡ true
        by k whose (inl same) built = was_built (event.End w x) what is number m at (sym same ∙ built)
        by k whose (inr here) built =
            let mine : module_of (course_of now w) ≡ Some number = whose ∙ ap (λ j. Some j) (sym here.0) in
            let alike : x ≡ ending.Built = ap ending_in (sym here.1 ∙ built) in
            let told : FitsEnd (stood plan (Some start) past number m) (hands w) x = behind_of plan start remote fit.apart present fit.backed fit.sized hands (λ w. (tell w).1) past behind w number m (event.End w x) what mine at fits.1 in
            let fine : FitsEnd (stood plan (Some start) past number m) (hands w) ending.Built = subst (FitsEnd (stood plan (Some start) past number m) (hands w)) alike told in
            or_map (not m.installs) (all_put m (kept_of (goals_in old number m)) (published past) m.own) (all_put m (outs plan (old ++ []) number) (λ f. published past f || false) m.own) fine.2
            (λ all. subst (λ own. all_put m own (λ f. published past f || false) m.own ≡ true) (sym (ap (λ kept. outs plan kept number) (append-nil old) ∙ outs_at plan old number m at))
            (put_more m (kept_of (goals_in old number m)) (published past) (λ f. published past f || false) (λ f done. or_left (published past f) false done) m.own all))

    -- so behind each event
    installed_after : (e : Event) (what : Carried) → IsEnabled o now e → Fits plan (Some start) hands past (record { event = e; carried = what }) → IsBuiltSo e what
    installed_after (event.Start w m) what is fits = plain (event.Start w m) what is refl
    installed_after (event.Skip m) what is fits = plain (event.Skip m) what is refl
    installed_after (event.Take w n mode) what is fits = plain (event.Take w n mode) what is refl
    installed_after (event.Free w n) what is fits = plain (event.Free w n) what is refl
    installed_after (event.Read w f) what is fits = plain (event.Read w f) what is refl
    installed_after (event.Publish w f) what is fits = plain (event.Publish w f) what is refl
    installed_after (event.Answer w g) what is fits = plain (event.Answer w g) what is refl
    installed_after (event.End w x) what is fits = ends w x what is fits

    -- a file that is neither fetched nor own stays behind each event
    neither_after : (e : Event) (what : Carried) → IsEnabled o now e → AreNeither (put_carried plan files e what)
    neither_after (event.Start w m) what is = neither
    neither_after (event.Skip m) what is = neither
    neither_after (event.Take w n mode) what is = neither
    neither_after (event.Free w n) what is = neither
    neither_after (event.Read w f) what is = neither
    neither_after (event.Answer w g) what is = neither
    neither_after (event.End w x) what is = neither
    neither_after (event.Publish w g) carried.Nothing is = neither
    neither_after (event.Publish w g) (carried.Answered answer) is = neither
    neither_after (event.Publish w g) (carried.Published bytes) is = λ f low unfetched unowned.
        at_insert files (name_of plan g) bytes (name_of plan f) ∙ ap (λ b. cond b (Some bytes) (file_at files (name_of plan f))) (apart f low unfetched unowned (eq_by_cmp (slice_cmp nat_cmp) (name_of plan f) (name_of plan g)) refl) ∙ neither f low unfetched unowned
      where
        place_is : (IsFetchFile plan g) ⊎ (IsOwnFile plan g)
        place_is =
            let on = due_on (course_of now w) (deed.Publish g) is.2 in
            let place = place_of plan start remote fit.apart present fit.backed fit.sized hands (λ w. (tell w).1) past behind w on.0 (ap module_of on.3) in
            let course : IsCourseFit o (on_course on.0 on.1 on.2) = subst (IsCourseFit o) on.3 (behind.courses.courses w) in
            let all = course.0 (module_outline place.0) (get_map module_outline plan.modules on.0 place.0 place.1) in
            by on.0 place.0 place.1 on.1 (due_file place.0.fetch (map (λ (x : OwnFile). x.file) place.0.own) on.1 g all (subst (λ c. is_due c (deed.Publish g) ≡ true) on.3 is.2))
          where
            by : (k : ℕ) (n : PlanModule) → slice_get plan.modules k ≡ Some n → (script : Script) → ((wanted script ≡ Some g) × (is_listed g n.fetch ≡ true)) ⊎ (is_listed g (map (λ (x : OwnFile). x.file) n.own) ≡ true) → (IsFetchFile plan g) ⊎ (IsOwnFile plan g)
            by k n here script (inl fetch) = inl (k, n, here, fetch.1)
            by k n here script (inr own) = inr (k, n, here, own)

        apart : (f : ℕ) → f < length plan.files → (IsFetchFile plan f → ⊥) → (IsOwnFile plan f → ⊥) → (b : Bool) → eq_by_cmp (slice_cmp nat_cmp) (name_of plan f) (name_of plan g) ≡ b → eq_by_cmp (slice_cmp nat_cmp) (name_of plan f) (name_of plan g) ≡ false
        apart f low unfetched unowned false e = e
        apart f low unfetched unowned true e = absurd (by place_is)
          where
            same : f ≡ g
            same = fit.differ f g low (let sized = fit.sized in omega (arith, is.1, sized)) e

            by : (IsFetchFile plan g) ⊎ (IsOwnFile plan g) → ⊥
            by (inl x) = unfetched (subst (IsFetchFile plan) (sym same) x)
            by (inr x) = unowned (subst (IsOwnFile plan) (sym same) x)

  abbrev pub IsAll : List RunEntry → Type 0
  IsAll past = IsBehind past × AreInstalled (standing_of_run plan past) (answers_in plan past) (published past) × AreNeither (contents plan start past)

  -- so behind one entry more
  all_more : (past : List RunEntry) (e : RunEntry) → IsAll past → Enabled o (events_of past) e.event → Fits plan (Some start) hands past e → IsAll (past ++ e ∷ [])
  unfolding Enabled
  all_more past e holds is fits =
      let next : standing_of_run plan (past ++ e ∷ []) ≡ after o (standing_of_run plan past) e.event = ap (standing_of o) (events_more past e) ∙ one_more o (events_of past) e.event in
      let files : contents plan start (past ++ e ∷ []) ≡ put_carried plan (contents plan start past) e.event e.carried = fold_more (λ files (x : RunEntry). put_carried plan files x.event x.carried) past start e in (
        behind_more plan start remote fit present hands tell past e holds.0 is fits,
        subst (λ now. AreInstalled now (answers_in plan (past ++ e ∷ [])) (published (past ++ e ∷ []))) (sym next)
            (subst (λ kept. AreInstalled (after o (standing_of_run plan past) e.event) kept (published (past ++ e ∷ []))) (sym (answers_more plan past e))
            (subst (AreInstalled (after o (standing_of_run plan past) e.event) (answers_in plan past ++ kept_by plan past e.event e.carried)) (λ i f. sym (published_more past e f) i) (installed_after past holds.0 holds.1 holds.2 e.event e.carried is fits))),
        subst AreNeither (sym files) (neither_after past holds.0 holds.1 holds.2 e.event e.carried is),
      )

  -- so behind every fitting run
  pub installed_all : (entries : List RunEntry) → IsRunOf plan entries → AllFit plan (Some start) hands [] entries → IsAll entries
  installed_all entries run fits = by_entries plan start hands IsAll all_more [] entries (behind_first plan start remote fit present hands tell, (λ number m at built. absurd (waits_on (length o.modules) number ending.Built built)), (λ f low unfetched unowned. refl)) run fits

  module _ (entries : List RunEntry) (run : IsRunOf plan entries) (fits : AllFit plan (Some start) hands [] entries) (complete : IsComplete plan entries) (quiet : IsQuiet entries) where
    abbrev last : Standing
    last = standing_of_run plan entries

    abbrev kept : List Answered
    kept = answers_in plan entries

    abbrev final : Files
    final = contents plan start entries

    abbrev stands : ℕ → State
    stands number = state_of o (standing_of_run plan entries).progress number

    -- what holds behind the run
    all : IsAll entries
    all = installed_all entries run fits

    -- how own files stand behind it
    so : IsOwnSo plan start remote entries
    so = own_so plan start remote fit present owns hands tell entries run fits

    -- each module is over
    over_at : (u : ℕ) (m : PlanModule) → slice_get plan.modules u ≡ Some m → is_over (progress_of last.progress u) ≡ true
    over_at u m at = let low = in_list plan.modules u m at in let long = length_map module_outline plan.modules in let rows = all.0.standing.fit.modules in all_over last.progress u complete (omega (arith, low, long, rows))

    -- a module that ended isn't skipped
    skipped_not : (number : ℕ) (e : Ending) → progress_of last.progress number ≡ Ended e → is_skipped_state (stands number) ≡ false
    skipped_not number e is = rw is refl

    -- nor one that has begun
    begun_not : (number : ℕ) → is_begun (progress_of last.progress number) ≡ true → is_skipped_state (stands number) ≡ false
    begun_not number begun = by (progress_of last.progress number) refl begun
      where
        by : (p : Progress) → progress_of last.progress number ≡ p → is_begun p ≡ true → is_skipped_state (stands number) ≡ false
        by Waiting e begun = absurd (false≢true begun)
        by Skipped e begun = absurd (false≢true begun)
        by (Running w) e begun = rw e refl
        by (Ended x) e begun = rw e refl

    -- what isn't skipped has ended
    ended_at : (number : ℕ) (m : PlanModule) → slice_get plan.modules number ≡ Some m → is_skipped_state (stands number) ≡ false → (e : Ending) × (progress_of last.progress number ≡ Ended e)
    ended_at number m at not_skipped = by (progress_of last.progress number) refl (over_at number m at)
      where
        skips : progress_of last.progress number ≡ Skipped → is_skipped_state (stands number) ≡ true
        skips is = rw is refl

        by : (p : Progress) → progress_of last.progress number ≡ p → is_over p ≡ true → (e : Ending) × (progress_of last.progress number ≡ Ended e)
        by Waiting e over = absurd (false≢true over)
        by (Running w) e over = absurd (false≢true over)
        by Skipped e over = absurd (false≢true (sym not_skipped ∙ skips e))
        by (Ended x) e over = (x, e)

    -- what stands as built has ended so
    done_is : (number : ℕ) → is_built (stands number) ≡ true → progress_of last.progress number ≡ Ended ending.Built
    done_is number is = by (progress_of last.progress number) refl (sym (built_is plan start remote fit present hands tell last.progress number) ∙ is)
      where
        by : (p : Progress) → progress_of last.progress number ≡ p → is_done p ≡ true → progress_of last.progress number ≡ Ended ending.Built
        by (Ended ending.Built) e done = e
        by Waiting e done = absurd (false≢true done)
        by Skipped e done = absurd (false≢true done)
        by (Running w) e done = absurd (false≢true done)
        by (Ended ending.NoArtifact) e done = absurd (false≢true done)
        by (Ended ending.ClasspathTooLarge) e done = absurd (false≢true done)
        by (Ended ending.Memory) e done = absurd (false≢true done)
        by (Ended (ending.Goal i)) e done = absurd (false≢true done)
        by (Ended (ending.Missing f)) e done = absurd (false≢true done)
        by (Ended (ending.OutputTooLarge i)) e done = absurd (false≢true done)
        by (Ended (ending.Fault d)) e done = absurd (false≢true done)

    -- a module that published an own file is built
    late_built : (number f : ℕ) (m : PlanModule) → slice_get plan.modules number ≡ Some m → is_listed f (map (λ (x : OwnFile). x.file) m.own) ≡ true → published entries f ≡ true → is_built (stands number) ≡ true
    late_built number f m at mine done = by (so.late number f m at mine done).0
      where
        ends : (e : Ending) → progress_of last.progress number ≡ Ended e → is_late_end e ≡ true → is_quiet_end e ≡ true → is_built (stands number) ≡ true
        ends ending.Built e late silent = built_is plan start remote fit present hands tell last.progress number ∙ ap is_done e
        ends ending.ClasspathTooLarge e late silent =
            absurd (false≢true (sym (not_large plan (supply_of start remote kept) number m (outs plan kept) (missing_of plan (supply_of start remote kept) m.fetch) (so.within number f m at mine done)) ∙ sym (ap (λ (v : Verdict). is_large v.state) (all.0.ended number m ending.ClasspathTooLarge at e refl))))
        ends ending.NoArtifact e late silent = absurd (false≢true late)
        ends ending.Memory e late silent = absurd (false≢true silent)
        ends (ending.Goal i) e late silent = absurd (false≢true late)
        ends (ending.Missing f) e late silent = absurd (false≢true late)
        ends (ending.OutputTooLarge i) e late silent = absurd (false≢true late)
        ends (ending.Fault d) e late silent = absurd (false≢true silent)

        by : IsLateAt last number → is_built (stands number) ≡ true
        by (inl a) = absurd (false≢true (sym (ap is_over a.1) ∙ over_at number m at))
        by (inr b) = ends b.0 b.1 b.2 (quiet_all plan entries quiet number b.0 b.1)

    -- what is there stands before a default
    some_or : (x y : Option (List ℕ)) → is_some x ≡ true → x ≡ option_or x y
    some_or (Some b) y is = refl
    some_or None y is = absurd (false≢true is)

    -- own files are as in the closed form
    own_left : (number f : ℕ) (m : PlanModule) → slice_get plan.modules number ≡ Some m → is_listed f (map (λ (x : OwnFile). x.file) m.own) ≡ true
        → file_at final (name_of plan f) ≡ option_or (if is_built (stands number) && m.installs then own_at m (outs plan kept number) f else None) (file_at start (name_of plan f))
    own_left number f m at mine = by (published entries f) refl
      where
        none : (b : Bool) → (is_built (stands number) && m.installs) ≡ b → published entries f ≡ false → option_or (if b then own_at m (outs plan kept number) f else None) (file_at start (name_of plan f)) ≡ file_at start (name_of plan f)
        none false e not_done = refl
        none true e not_done =
            let parts = both (is_built (stands number)) m.installs e in
            let put : all_put m (outs plan kept number) (published entries) m.own ≡ true = subst (λ b. (not b || all_put m (outs plan kept number) (published entries) m.own) ≡ true) parts.1 (all.1 number m at (done_is number parts.0)) in
            ap (λ x. option_or x (file_at start (name_of plan f))) (put_none m (outs plan kept number) (published entries) f not_done m.own put)

        by : (b : Bool) → published entries f ≡ b → file_at final (name_of plan f) ≡ option_or (if is_built (stands number) && m.installs then own_at m (outs plan kept number) f else None) (file_at start (name_of plan f))
        by true done =
            let bytes = so.bytes number f m at mine done in
            bytes.0 ∙ some_or (own_at m (outs plan kept number) f) (file_at start (name_of plan f)) (ap is_some (sym bytes.0) ∙ bytes.1)
            ∙ sym (ap (λ b. option_or (if b then own_at m (outs plan kept number) f else None) (file_at start (name_of plan f))) (and_is (is_built (stands number)) m.installs (late_built number f m at mine done) (so.late number f m at mine done).1))
        by false not_done = so.fresh f (number, m, at, mine) not_done ∙ sym (none (is_built (stands number) && m.installs) refl not_done)

    -- the contents of a run
    pub left_so : IsLeft plan (supply_of start remote kept) (λ number. state_of o (standing_of_run plan entries).progress number) (outs plan kept) (contents plan start entries)
    left_so =
        let fetched = (fetched_so plan start remote fit present hands tell entries run fits).1 in
        record {
          other = all.0.stored.other;
          neither = all.2;
          bytes = λ f fetch is. let low = owns.fetched f fetch in all.0.stored.bytes f fetch low (all.0.stored.there f low ∙ is);
          had = λ number f m at not_skipped l.
              let ends = ended_at number m at not_skipped in
              sym (all.0.stored.there f (owns.fetched f (number, m, at, prefix_listed plan base f m.fetch l))) ∙ fetched.had number m ends.0 at ends.1 (quiet_all plan entries quiet number ends.0 ends.1) f l;
          reason = λ f fetch is. let low = owns.fetched f fetch in why f low (fetched.reason f fetch (all.0.stored.there f low ∙ is));
          kept = λ f fetch is. let low = owns.fetched f fetch in sym (all.0.stored.there f low) ∙ all.0.courses.grows f (present f low ∙ is);
          own = own_left;
        }
      where
        why : (f : ℕ) → f < length plan.files → (is_there plan.present f ≡ true) ⊎ ((number : ℕ) × (m : PlanModule) × (slice_get plan.modules number ≡ Some m) × (is_begun (progress_of last.progress number) ≡ true) × (is_listed f (had_prefix plan base m.fetch) ≡ true))
            → (is_some (file_at start (name_of plan f)) ≡ true) ⊎ ((number : ℕ) × (m : PlanModule) × (slice_get plan.modules number ≡ Some m) × (is_skipped_state (stands number) ≡ false) × (is_listed f (had_prefix plan base m.fetch) ≡ true))
        why f low (inl is) = inl (sym (present f low) ∙ is)
        why f low (inr r) = inr (r.0, r.1, r.2, begun_not r.0 r.3, r.4)
