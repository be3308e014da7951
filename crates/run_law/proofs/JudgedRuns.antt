-- Every complete, quiet, fitting run ends as the sequential build.
use Rattle.std.proofs.Common.{◌≡◌, ℕ, zero, suc, ◌<◌, ◌⊎◌, inl, inr, Bool, true, false, not, set, List, [], ◌∷◌, ◌++◌, find, length, replicate, slice_get, Option, Some, None, is_some, unwrap_or, refl, arith, sym, ap, subst, ◌∙◌}
use Rattle.std.specs.List.{list_all}
use Rattle.std.specs.Option.{option_map_or}
use Rattle.std.proofs.lemmas.Bool.{false≢true}
use Rattle.std.proofs.lemmas.List.{append-nil, append_assoc}
use Rattle.mvn_shared.specs.Files.{Files}
use Rattle.build_core.specs.declared.event.Answered.{Answered}
use Rattle.build_core.specs.declared.ending.Ending.{Ending}
use Rattle.build_core.specs.declared.ending.Ending.TheVariants as ending
use Rattle.build_core.specs.declared.plan.Entry.{Entry}
use Rattle.build_core.specs.declared.event.Event.{Event}
use Rattle.build_core.specs.declared.event.Event.TheVariants as event
use Rattle.scripts.specs.declared.outline.ModuleOutline.{ModuleOutline}
use Rattle.scripts.specs.declared.outline.Outline.{Outline}
use Rattle.build_core.specs.declared.plan.Plan.{Plan}
use Rattle.build_core.specs.declared.plan.PlanModule.{PlanModule}
use Rattle.event_core.specs.declared.module_steps.Progress.{Progress}
use Rattle.event_core.specs.declared.module_steps.Progress.TheVariants.{Waiting, Running, Skipped, Ended}
use Rattle.event_core.specs.declared.entry.RunEntry.{RunEntry}
use Rattle.build_core.specs.declared.ending.State.{State}
use Rattle.build_core.specs.declared.ending.State.TheVariants as state
use Rattle.run_law.specs.Closed.{AreJudged, Verdict, judge, outputs_at, state_at, verdict_of_upstream}
use Rattle.event_core.specs.Enabled.{Enabled}
use Rattle.run_law.proofs.Invariants.{AreCoursesFit, AreEnded, AreGathering, AreKept, FilesDiffer, IsStored, OwnApart, has_answer, is_begun, is_quiet_end, outs, supply_of}
use Rattle.run_law.specs.Given.{Extends, IsPresent, is_kept, reaches, supply_by}
use Rattle.build_core.specs.OneThread.{Supply, is_built, one_thread}
use Rattle.scripts.specs.Outlines.{is_listed, module_outline, outline_of}
use Rattle.event_core.specs.Runs.{IsComplete, IsQuiet, IsRunOf, answers_in, contents, events_of, is_quiet_event, put_carried, standing_of_run}
use Rattle.event_core.specs.SoundPlans.{is_backed}
use Rattle.event_core.specs.HowFar.{first_lost, first_not_built, is_done, is_lost, is_over, progress_of, state_of, upstream_of}
use Rattle.event_core.specs.Standing.{Standing, after, course_of, ended, module_of, standing_of}
use Rattle.event_core.specs.Worlds.{AllFit, Fits, HandTold}
use Rattle.run_law.proofs.Complete.{IsStanding, all_over, by_entries, events_more, standing_after, standing_first}
use Rattle.run_law.proofs.Courses.{courses_after, courses_first}
use Rattle.run_law.proofs.Ended.{Behind, set_cases}
use Rattle.event_core.proofs.Fits.{fold_more, one_more}
use Rattle.run_law.proofs.Fold.{hand_judged, in_list}
use Rattle.run_law.proofs.RunGathering.{gathering_after, gathering_first}
use Rattle.run_law.proofs.Hand.{AreApart}
use Rattle.run_law.proofs.Kept.{answers_more, outs_none}
use Rattle.run_law.proofs.Once.{both, find_same, judged_once}
use Rattle.run_law.proofs.Ordered.{IsOrdered, is_skipped, ordered_after, ordered_first}
use Rattle.run_law.proofs.Step.{kept_after}
use Rattle.run_law.proofs.Stored.{AllTell, brings_of, get_in, get_map, length_map, stored_after, stored_first}
use Rattle.goal_types.specs.declared.goal.GoalAnswer.{GoalAnswer}
use Rattle.run_law.proofs.AllAnswered.{all_answered_in}
use Rattle.run_law.proofs.Extending.{ended_extends}

abbrev is_ended : Progress → Bool
is_ended (Ended e) = true
is_ended other = false

-- at first no module has ended
pub waits_on : (n m : ℕ) (e : Ending) → progress_of (replicate n Waiting) m ≡ Ended e → ⊥
waits_on zero m e is = false≢true (ap is_ended is)
waits_on (suc n) zero e is = false≢true (ap is_ended is)
waits_on (suc n) (suc m) e is = waits_on n m e is

-- what the law asks of a plan: all follows from its soundness, and from `present` saying what is there at the start
pub record IsFitPlan (plan : Plan) : Type 0 where
  pub apart : AreApart plan
  pub differ : FilesDiffer plan
  pub own : OwnApart plan
  pub sized : length plan.present ≡ length plan.files
  pub low : (number u : ℕ) (m : PlanModule) → slice_get plan.modules number ≡ Some m → is_listed u m.upstream ≡ true → u < number
  pub backed : (number : ℕ) (m : PlanModule) → slice_get plan.modules number ≡ Some m → list_all (λ (e : Entry). is_backed m e.origin) m.entries ≡ true

module _ (plan : Plan) (start remote : Files) (fit : IsFitPlan plan) (present : IsPresent plan start) (hands : ℕ → HandTold) (tell : AllTell plan (supply_of start remote []) fit.differ fit.own present hands) where
  abbrev o : Outline
  o = outline_of plan

  abbrev base : Supply
  base = supply_of start remote []

  abbrev IsBehind : List RunEntry → Type 0
  IsBehind past = Behind plan start remote fit.apart present fit.backed past

  -- all of it stays behind one entry more
  pub behind_more : (past : List RunEntry) (e : RunEntry) → IsBehind past → Enabled o (events_of past) e.event → Fits plan (Some start) hands past e → IsBehind (past ++ e ∷ [])
  unfolding Enabled
  behind_more past e behind is fits =
      let next : standing_of_run plan (past ++ e ∷ []) ≡ after o (standing_of_run plan past) e.event = ap (standing_of o) (events_more past e) ∙ one_more o (events_of past) e.event in
      let files : contents plan start (past ++ e ∷ []) ≡ put_carried plan (contents plan start past) e.event e.carried = fold_more (λ files (x : RunEntry). put_carried plan files x.event x.carried) past start e in
      let kept = kept_after plan start remote fit.apart present fit.backed fit.sized hands (λ w. (tell w).1) past behind e.event e.carried is fits in
      let long : length (standing_of_run plan past).there ≡ length plan.present = behind.stored.sized ∙ sym fit.sized in
      record {
        standing = subst (IsStanding o) (sym next) (standing_after o (standing_of_run plan past) e.event behind.standing is);
        courses = subst (AreCoursesFit o) (sym next) (courses_after o (standing_of_run plan past) e.event behind.courses);
        stored = subst (λ now. IsStored plan base now (contents plan start (past ++ e ∷ []))) (sym next)
            (subst (IsStored plan base (after o (standing_of_run plan past) e.event)) (sym files)
            (stored_after plan base fit.differ fit.own present (standing_of_run plan past) (contents plan start past) e.event e.carried behind.standing behind.courses fit.sized behind.stored is (brings_of plan base fit.differ fit.own present hands tell past e.event e.carried fits)));
        ordered = subst (IsOrdered o) (sym next) (ordered_after o (standing_of_run plan past) e.event behind.standing behind.ordered is);
        gathering = subst (AreGathering o) (sym next) (gathering_after o (standing_of_run plan past) e.event behind.courses behind.gathering is long);
        kept = subst (λ now. AreKept plan start remote now (answers_in plan (past ++ e ∷ []))) (sym next) (subst (AreKept plan start remote (after o (standing_of_run plan past) e.event)) (sym (answers_more plan past e)) kept.0);
        ended = subst (λ now. AreEnded plan start remote now (answers_in plan (past ++ e ∷ []))) (sym next) (subst (AreEnded plan start remote (after o (standing_of_run plan past) e.event)) (sym (answers_more plan past e)) kept.1);
      }

  -- it holds where nothing has happened
  pub behind_first : IsBehind []
  behind_first = record {
    standing = standing_first o;
    courses = courses_first o;
    stored = stored_first plan base fit.differ fit.own present fit.sized;
    ordered = ordered_first o;
    gathering = gathering_first o;
    kept = record { begun = λ u has. absurd (false≢true has); had = λ u m at has. absurd (false≢true has); within = λ u m at has. absurd (false≢true has) };
    ended = λ number m e at is quiet. absurd (waits_on (length o.modules) number e is);
  }

  -- so it holds behind every fitting run
  pub behind_all : (entries : List RunEntry) → IsRunOf plan entries → AllFit plan (Some start) hands [] entries → IsBehind entries
  behind_all entries run fits = by_entries plan start hands IsBehind behind_more [] entries behind_first run fits

  -- ---- complete runs

  abbrev run_state : List RunEntry → ℕ → State
  run_state entries number = state_of o (standing_of_run plan entries).progress number

  abbrev QuietAt : List RunEntry → ℕ → Type 0
  QuietAt entries number = (e : Ending) → progress_of (standing_of_run plan entries).progress number ≡ Ended e → is_quiet_end e ≡ true

  -- each goal that an ending stands for was answered
  abbrev AreAnswered : List RunEntry → Type 0
  AreAnswered entries = (number goal : ℕ) (m : PlanModule) (e : Ending) → slice_get plan.modules number ≡ Some m → progress_of (standing_of_run plan entries).progress number ≡ Ended e → goal < length m.goals → reaches e goal ≡ true → is_kept (answers_in plan entries) number goal ≡ true

  -- how a module stands, by how far it is
  module _ (ps : List Progress) (number : ℕ) where
    -- a module that ended stands so
    ended_state : (e : Ending) → progress_of ps number ≡ Ended e → state_of o ps number ≡ state.Ended e
    ended_state e is = rw is refl

    -- a skipped one stands so, for its first lost upstream
    skipped_state : progress_of ps number ≡ Skipped → state_of o ps number ≡ state.Skipped (unwrap_or (first_lost o ps number) 0)
    skipped_state is = rw is refl

    -- a module stands as built where it is done
    pub built_is : is_built (state_of o ps number) ≡ is_done (progress_of ps number)
    built_is = by (progress_of ps number) refl
      where
        by : (p : Progress) → progress_of ps number ≡ p → is_built (state_of o ps number) ≡ is_done p
        by Waiting e = rw e refl
        by (Running w) e = rw e refl
        by Skipped e = rw e refl
        by (Ended ending.Built) e = rw e refl
        by (Ended ending.NoArtifact) e = rw e refl
        by (Ended ending.ClasspathTooLarge) e = rw e refl
        by (Ended ending.Memory) e = rw e refl
        by (Ended (ending.Goal i)) e = rw e refl
        by (Ended (ending.Missing f)) e = rw e refl
        by (Ended (ending.OutputTooLarge i)) e = rw e refl
        by (Ended (ending.Fault d)) e = rw e refl

  -- what is over is done or lost
  lost_or_done : (p : Progress) → is_over p ≡ true → not (is_done p) ≡ is_lost p
  lost_or_done Waiting over = absurd (false≢true over)
  lost_or_done (Running w) over = absurd (false≢true over)
  lost_or_done Skipped over = refl
  lost_or_done (Ended ending.Built) over = refl
  lost_or_done (Ended ending.NoArtifact) over = refl
  lost_or_done (Ended ending.ClasspathTooLarge) over = refl
  lost_or_done (Ended ending.Memory) over = refl
  lost_or_done (Ended (ending.Goal i)) over = refl
  lost_or_done (Ended (ending.Missing f)) over = refl
  lost_or_done (Ended (ending.OutputTooLarge i)) over = refl
  lost_or_done (Ended (ending.Fault d)) over = refl

  -- what waits or runs isn't over
  not_over : (p : Progress) (w : ℕ) → (p ≡ Waiting) ⊎ (p ≡ Running w) → is_over p ≡ true → ⊥
  not_over p w (inl e) over = false≢true (sym (ap is_over e) ∙ over)
  not_over p w (inr e) over = false≢true (sym (ap is_over e) ∙ over)

  module _ (entries : List RunEntry) (behind : IsBehind entries) where
    abbrev ps : List Progress
    ps = (standing_of_run plan entries).progress

    abbrev kept : List Answered
    kept = answers_in plan entries

    -- the upstreams of an outline's module are its plan's
    ups : (number : ℕ) (m : PlanModule) → slice_get plan.modules number ≡ Some m → upstream_of o number ≡ m.upstream
    ups number m at = ap (λ found. option_map_or (λ (x : ModuleOutline). x.upstream) found []) (get_map module_outline plan.modules number m at)

    -- the first upstream that doesn't stand as built is the first that isn't done
    unbuilt_is : (number : ℕ) (m : PlanModule) → slice_get plan.modules number ≡ Some m → find (λ u. not (is_built (run_state entries u))) m.upstream ≡ first_not_built o ps number
    unbuilt_is number m at = find_same (λ u. not (is_built (run_state entries u))) (λ u. not (is_done (progress_of ps u))) m.upstream (λ u l. ap not (built_is ps u)) ∙ ap (find (λ u. not (is_done (progress_of ps u)))) (sym (ups number m at))

    -- no answer of a skipped module is kept
    no_answer : (number : ℕ) → progress_of ps number ≡ Skipped → has_answer kept number ≡ false
    no_answer number is = by (has_answer kept number) refl
      where
        by : (b : Bool) → has_answer kept number ≡ b → has_answer kept number ≡ false
        by false e = e
        by true e = absurd (false≢true (sym (ap is_begun is) ∙ behind.kept.begun number e))

    -- a module that ended, but not by a fault or for want of memory, stands as it is judged, by any answers that extend those that are kept
    pub ended_judged : (said : ℕ → ℕ → GoalAnswer) → Extends kept said → AreAnswered entries → (number : ℕ) (m : PlanModule) (x : Ending) → slice_get plan.modules number ≡ Some m → progress_of ps number ≡ Ended x → is_quiet_end x ≡ true
        → ◌≡◌ {A = Verdict} (record { state = run_state entries number; outputs = outs plan kept number }) (judge plan (supply_by start remote said) (run_state entries) (outs plan kept) number m)
    unfolding judge
    ended_judged said extends answered number m x at e quiet =
        (λ i. record { state = ended_state ps number x e i; outputs = outs plan kept number })
        ∙ ended_extends plan start remote kept said extends number m x (outs plan kept) (λ goal less for. answered number goal m x at e less for) (behind.ended number m x at e quiet)
        ∙ sym (ap (verdict_of_upstream plan (supply_by start remote said) number m (outs plan kept)) (unbuilt_is number m at ∙ behind.ordered.begun number (ap is_begun e)))

    module _ (complete : IsComplete plan entries) where
      -- each module is over
      over_at : (u : ℕ) → u < length plan.modules → is_over (progress_of ps u) ≡ true
      over_at u low = let long = length_map module_outline plan.modules in let rows = behind.standing.fit.modules in all_over ps u complete (omega (arith, low, long, rows))

      -- so the first upstream that isn't done is the first lost one
      lost_is : (number : ℕ) (m : PlanModule) → slice_get plan.modules number ≡ Some m → first_not_built o ps number ≡ first_lost o ps number
      lost_is number m at = ap (find (λ u. not (is_done (progress_of ps u)))) (ups number m at)
          ∙ find_same (λ u. not (is_done (progress_of ps u))) (λ u. is_lost (progress_of ps u)) m.upstream (λ u l. lost_or_done (progress_of ps u) (over_at u (let a = fit.low number u m at l in let b = in_list plan.modules number m at in omega (arith, a, b))))
          ∙ ap (find (λ u. is_lost (progress_of ps u))) (sym (ups number m at))

      -- each module that didn't end by a fault or for want of memory stands as it is judged
      -- by any answers that extend those that are kept
      pub run_judged : (said : ℕ → ℕ → GoalAnswer) → Extends kept said → AreAnswered entries → AreJudged plan (supply_by start remote said) (QuietAt entries) (run_state entries) (outs plan kept)
      unfolding judge
      run_judged said extends answered number m at quiet = by (progress_of ps number) refl
        where
          by : (p : Progress) → progress_of ps number ≡ p → ◌≡◌ {A = Verdict} (record { state = run_state entries number; outputs = outs plan kept number }) (judge plan (supply_by start remote said) (run_state entries) (outs plan kept) number m)
          by Waiting e = absurd (not_over (progress_of ps number) 0 (inl e) (over_at number (in_list plan.modules number m at)))
          by (Running w) e = absurd (not_over (progress_of ps number) w (inr e) (over_at number (in_list plan.modules number m at)))
          by (Ended x) e = ended_judged said extends answered number m x at e (quiet x e)
          by Skipped e = ended_by (first_lost o ps number) refl (behind.ordered.skipped number (ap is_skipped e))
            where
              ended_by : (found : Option ℕ) → first_lost o ps number ≡ found → is_some found ≡ true → ◌≡◌ {A = Verdict} (record { state = run_state entries number; outputs = outs plan kept number }) (judge plan (supply_by start remote said) (run_state entries) (outs plan kept) number m)
              ended_by None f some = absurd (false≢true some)
              ended_by (Some u) f some =
                  (λ i. record { state = (skipped_state ps number e ∙ ap (λ x. state.Skipped (unwrap_or x 0)) f) i; outputs = outs_none plan kept number m at (no_answer number e) i })
                  ∙ sym (ap (verdict_of_upstream plan (supply_by start remote said) number m (outs plan kept)) (unbuilt_is number m at ∙ lost_is number m at ∙ f))

  -- a place below a module's is a module's
  pub real : (number u : ℕ) (m : PlanModule) → slice_get plan.modules number ≡ Some m → u < number → (n : PlanModule) × (slice_get plan.modules u ≡ Some n)
  real number u m at less = get_in plan.modules u (let low = in_list plan.modules number m at in omega (arith, less, low))

  -- isolation: on modules that P holds of, none of which ended by a fault, P going up to upstreams, the run is the sequential build
  pub isolation : (P : ℕ → Type 0) (entries : List RunEntry) → IsRunOf plan entries → AllFit plan (Some start) hands [] entries → IsComplete plan entries → (said : ℕ → ℕ → GoalAnswer) → Extends (answers_in plan entries) said
      → ((number : ℕ) → P number → QuietAt entries number) → ((number u : ℕ) (m : PlanModule) → slice_get plan.modules number ≡ Some m → is_listed u m.upstream ≡ true → P number → P u)
      → (number : ℕ) (m : PlanModule) → slice_get plan.modules number ≡ Some m → P number
      → (run_state entries number ≡ state_at (one_thread plan (supply_by start remote said)) number) × (outs plan (answers_in plan entries) number ≡ outputs_at (one_thread plan (supply_by start remote said)) number)
  isolation P entries run fits complete said extends quiet up number m at holds =
      let supply = supply_by start remote said in
      judged_once plan supply P (run_state entries) (state_at (one_thread plan supply)) (outs plan (answers_in plan entries)) (outputs_at (one_thread plan supply))
      (λ k u n here l. (fit.low k u n here l, up k u n here l)) real fit.backed
      (λ k n here p. run_judged entries (behind_all entries run fits) complete said extends (all_answered_in plan start hands entries run fits) k n here (quiet k p))
      (λ k n here p. hand_judged plan supply fit.apart fit.low fit.backed k n here tt) number m at holds

-- ---- quiet runs

abbrev pub ending_of : Progress → Ending
ending_of (Ended e) = e
ending_of other = ending.Memory

-- what has ended behind an event had ended, or the event is its end
pub ended_or : (o : Outline) (now : Standing) (e : Event) (number : ℕ) (x : Ending) → progress_of (after o now e).progress number ≡ Ended x → (progress_of now.progress number ≡ Ended x) ⊎ ((w : ℕ) × (e ≡ event.End w x))
unfolding after
ended_or o now (event.Start w m) number x is = by (set_cases now.progress m (Running w) number)
  where
    by : (progress_of (set now.progress m (Running w)) number ≡ progress_of now.progress number) ⊎ ((number ≡ m) × (progress_of (set now.progress m (Running w)) number ≡ Running w)) → (progress_of now.progress number ≡ Ended x) ⊎ ((v : ℕ) × (event.Start w m ≡ event.End v x))
    by (inl same) = inl (sym same ∙ is)
    by (inr here) = absurd (false≢true (ap is_ended (sym here.1 ∙ is)))
ended_or o now (event.Skip m) number x is = by (set_cases now.progress m Skipped number)
  where
    by : (progress_of (set now.progress m Skipped) number ≡ progress_of now.progress number) ⊎ ((number ≡ m) × (progress_of (set now.progress m Skipped) number ≡ Skipped)) → (progress_of now.progress number ≡ Ended x) ⊎ ((v : ℕ) × (event.Skip m ≡ event.End v x))
    by (inl same) = inl (sym same ∙ is)
    by (inr here) = absurd (false≢true (ap is_ended (sym here.1 ∙ is)))
ended_or o now (event.Take w n mode) number x is = inl is
ended_or o now (event.Free w n) number x is = inl is
ended_or o now (event.Read w f) number x is = inl is
ended_or o now (event.Publish w f) number x is = inl is
ended_or o now (event.Answer w g) number x is = inl is
ended_or o now (event.End w e) number x is = at (module_of (course_of now w)) is
  where
    at : (found : Option ℕ) → progress_of (ended found e now.progress) number ≡ Ended x → (progress_of now.progress number ≡ Ended x) ⊎ ((v : ℕ) × (event.End w e ≡ event.End v x))
    at None is = inl is
    at (Some k) is = by (set_cases now.progress k (Ended e) number)
      where
        by : (progress_of (set now.progress k (Ended e)) number ≡ progress_of now.progress number) ⊎ ((number ≡ k) × (progress_of (set now.progress k (Ended e)) number ≡ Ended e)) → (progress_of now.progress number ≡ Ended x) ⊎ ((v : ℕ) × (event.End w e ≡ event.End v x))
        by (inl same) = inl (sym same ∙ is)
        by (inr here) = inr (w, ap (λ y. event.End w y) (ap ending_of (sym here.1 ∙ is)))

-- an end that is quiet as an event is quiet as an ending
quiet_end : (w : ℕ) (x : Ending) → is_quiet_event (event.End w x) ≡ true → is_quiet_end x ≡ true
quiet_end w ending.Built q = refl
quiet_end w ending.NoArtifact q = refl
quiet_end w ending.ClasspathTooLarge q = refl
quiet_end w (ending.Goal i) q = refl
quiet_end w (ending.Missing f) q = refl
quiet_end w (ending.OutputTooLarge i) q = refl
quiet_end w (ending.Fault d) q = q
quiet_end w ending.Memory q = q

abbrev AllQuiet : Standing → Type 0
AllQuiet now = (number : ℕ) (x : Ending) → progress_of now.progress number ≡ Ended x → is_quiet_end x ≡ true

-- all ends stay quiet behind quiet entries
quiet_from : (plan : Plan) (past rest : List RunEntry) → AllQuiet (standing_of_run plan past) → list_all (λ (e : RunEntry). is_quiet_event e.event) rest ≡ true → AllQuiet (standing_of_run plan (past ++ rest))
quiet_from plan past [] all quiet = subst (λ es. AllQuiet (standing_of_run plan es)) (sym (append-nil past)) all
quiet_from plan past (e ∷ rest) all quiet =
    let parts = both (is_quiet_event e.event) (list_all (λ (e : RunEntry). is_quiet_event e.event) rest) quiet in
    subst (λ es. AllQuiet (standing_of_run plan es)) (append_assoc past (e ∷ []) rest)
    (quiet_from plan (past ++ e ∷ []) rest (subst AllQuiet (sym (ap (standing_of (outline_of plan)) (events_more past e) ∙ one_more (outline_of plan) (events_of past) e.event)) (λ number x is. by number x parts.0 (ended_or (outline_of plan) (standing_of_run plan past) e.event number x is))) parts.1)
  where
    by : (number : ℕ) (x : Ending) → is_quiet_event e.event ≡ true → (progress_of (standing_of_run plan past).progress number ≡ Ended x) ⊎ ((w : ℕ) × (e.event ≡ event.End w x)) → is_quiet_end x ≡ true
    by number x q (inl old) = all number x old
    by number x q (inr new) = quiet_end new.0 x (subst (λ y. is_quiet_event y ≡ true) new.1 q)

-- so they are behind a quiet run
pub quiet_all : (plan : Plan) (entries : List RunEntry) → IsQuiet entries → AllQuiet (standing_of_run plan entries)
quiet_all plan entries quiet = quiet_from plan [] entries (λ number x is. absurd (waits_on (length (outline_of plan).modules) number x is)) quiet

-- the endings and the kept outputs of a complete, quiet, fitting run
pub core_ends : (plan : Plan) (start remote : Files) (fit : IsFitPlan plan) (present : IsPresent plan start) (hands : ℕ → HandTold) → AllTell plan (supply_of start remote []) fit.differ fit.own present hands → (entries : List RunEntry)
    → IsRunOf plan entries → AllFit plan (Some start) hands [] entries → IsComplete plan entries → IsQuiet entries → (said : ℕ → ℕ → GoalAnswer) → Extends (answers_in plan entries) said → (number : ℕ) (m : PlanModule) → slice_get plan.modules number ≡ Some m
    → (state_of (outline_of plan) (standing_of_run plan entries).progress number ≡ state_at (one_thread plan (supply_by start remote said)) number) × (outs plan (answers_in plan entries) number ≡ outputs_at (one_thread plan (supply_by start remote said)) number)
core_ends plan start remote fit present hands tell entries run fits complete quiet said extends number m at =
    isolation plan start remote fit present hands tell (λ n. Unit {0}) entries run fits complete said extends (λ n any. quiet_all plan entries quiet n) (λ k u n here l any. tt) number m at tt
