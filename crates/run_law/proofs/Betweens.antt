-- The files behind any fitting run lie between the start and the end of the sequential build.
use Rattle.std.proofs.Common.{◌≡◌, ℕ, ◌<◌, ◌⊎◌, inl, inr, Bool, true, false, not, ◌&&◌, nat_lt, List, [], find, length, map, slice_get, Option, Some, None, is_some, refl, sym, ap, subst, ◌∙◌, if◌then◌else◌}
use Rattle.std.specs.Option.{option_map_or, option_or}
use Rattle.std.specs.Ordering.{eq_by_cmp, nat_cmp}
use Rattle.std.specs.Cmp.Lexicographic.{slice_cmp}
use Rattle.std.proofs.lemmas.Bool.{false≢true}
use Rattle.mvn_shared.specs.Files.{Files, file_at}
use Rattle.build_core.specs.declared.event.Answered.{Answered}
use Rattle.build_core.specs.declared.ending.Ending.TheVariants as ending
use Rattle.goal_types.specs.declared.goal.GoalAnswer.{GoalAnswer}
use Rattle.scripts.specs.declared.outline.ModuleOutline.{ModuleOutline}
use Rattle.scripts.specs.declared.outline.Outline.{Outline}
use Rattle.goal_types.specs.declared.goal.OwnBytes.{OwnBytes}
use Rattle.build_core.specs.declared.plan.OwnFile.{OwnFile}
use Rattle.build_core.specs.declared.plan.Plan.{Plan}
use Rattle.build_core.specs.declared.plan.PlanModule.{PlanModule}
use Rattle.event_core.specs.declared.module_steps.Progress.{Progress}
use Rattle.event_core.specs.declared.module_steps.Progress.TheVariants.{Waiting, Running, Skipped, Ended}
use Rattle.event_core.specs.declared.entry.RunEntry.{RunEntry}
use Rattle.build_core.specs.declared.ending.State.{State}
use Rattle.build_core.specs.declared.ending.State.TheVariants as state
use Rattle.run_law.specs.Closed.{Verdict, available, had_prefix, judge, missing_of, outputs_at, state_at, total_len, verdict_of_fetch, verdict_of_goals, verdict_of_install, verdict_of_upstream}
use Rattle.run_law.proofs.Invariants.{IsFetchFile, IsOwnFile, is_begun, is_quiet_end, outs, supply_of}
use Rattle.run_law.specs.Given.{Extends, IsPresent, supply_by}
use Rattle.build_core.specs.OneThread.{Supply, is_built, lacks_artifact, most_classpath, name_of, one_thread, remote_bytes}
use Rattle.scripts.specs.Outlines.{is_listed, module_outline, outline_of}
use Rattle.event_core.specs.Runs.{IsRunOf, answers_in, contents, goals_in, standing_of_run}
use Rattle.scripts.specs.Scripts.{is_there}
use Rattle.build_core.specs.Slots.{GoalsEnd, all_answered, goal_failed, kept_of, output_too_large, run_goals}
use Rattle.event_core.specs.HowFar.{is_done, progress_of, state_of, upstream_of}
use Rattle.event_core.specs.Standing.{Standing}
use Rattle.event_core.specs.Worlds.{AllFit, HandTold, is_good}
use Rattle.run_law.proofs.AllAnswered.{all_answered_in}
use Rattle.run_law.proofs.Carried.{same_name}
use Rattle.run_law.proofs.JudgedRuns.{IsFitPlan, built_is as state_built, ended_judged, real}
use Rattle.run_law.proofs.Contents.{module_or_not, name_or_not}
use Rattle.run_law.proofs.Ended.{Behind, find_gone}
use Rattle.run_law.proofs.Extending.{goals_extend}
use Rattle.run_law.proofs.Fetches.{fetched_so}
use Rattle.run_law.proofs.Fold.{hand_judged}
use Rattle.run_law.proofs.HandFiles.{hand_left}
use Rattle.run_law.proofs.Kept.{outs_at}
use Rattle.run_law.proofs.Left.{installed_all}
use Rattle.run_law.proofs.Once.{judge_same, judged_once, len_same}
use Rattle.run_law.proofs.Owns.{late_begun, own_so}
use Rattle.run_law.proofs.Ready.{find_nothing}
use Rattle.run_law.proofs.ClosedFiles.{AreOwnsFit, IsLeft, IsOwnSo, is_skipped_state, own_at, published}
use Rattle.run_law.proofs.Stored.{AllTell, get_map, none_is}
use Rattle.run_law.proofs.Basics.{not_not}
use Rattle.build_core.specs.declared.ending.Ending.{Ending}

-- ---- verdicts

-- what ends with installing isn't skipped
not_skipped_install : (a b : Bool) (own : List OwnBytes) → is_skipped_state (verdict_of_install a b own).state ≡ false
not_skipped_install true true own = refl
not_skipped_install true false own = refl
not_skipped_install false b own = refl

-- nor what ends at its goals
not_skipped_goals : (m : PlanModule) (end : GoalsEnd) → is_skipped_state (verdict_of_goals m end).state ≡ false
not_skipped_goals m (all_answered own) = not_skipped_install m.installs (lacks_artifact m own) own
not_skipped_goals m (goal_failed i own) = refl
not_skipped_goals m (output_too_large i own) = refl

-- a module whose upstreams are built isn't skipped
not_skipped : (plan : Plan) (supply : Supply) (number : ℕ) (m : PlanModule) (outputs : ℕ → List OwnBytes) (missing : Option ℕ) → is_skipped_state (verdict_of_fetch plan supply number m outputs missing).state ≡ false
not_skipped plan supply number m outputs (Some f) = refl
not_skipped plan supply number m outputs None = by (nat_lt most_classpath (total_len plan supply outputs m.entries))
  where
    by : (b : Bool) → is_skipped_state (if b then record { state = state.Ended ending.ClasspathTooLarge; outputs = [] } else verdict_of_goals m (run_goals m.budget (supply.answers number) 0 m.goals [])).state ≡ false
    by true = refl
    by false = not_skipped_goals m (run_goals m.budget (supply.answers number) 0 m.goals [])

-- what is there stands before a default
pub option_or_some : (o d : Option (List ℕ)) → is_some o ≡ true → option_or o d ≡ o
option_or_some (Some x) d is = refl
option_or_some None d is = absurd (false≢true is)

-- a module that is done has ended as built
done_is : (p : Progress) → is_done p ≡ true → p ≡ Ended ending.Built
done_is (Ended ending.Built) is = refl
done_is Waiting is = absurd (false≢true is)
done_is (Running w) is = absurd (false≢true is)
done_is Skipped is = absurd (false≢true is)
done_is (Ended ending.NoArtifact) is = absurd (false≢true is)
done_is (Ended ending.ClasspathTooLarge) is = absurd (false≢true is)
done_is (Ended ending.Memory) is = absurd (false≢true is)
done_is (Ended (ending.Goal i)) is = absurd (false≢true is)
done_is (Ended (ending.Missing f)) is = absurd (false≢true is)
done_is (Ended (ending.OutputTooLarge i)) is = absurd (false≢true is)
done_is (Ended (ending.Fault d)) is = absurd (false≢true is)

-- good goals are all answered
good_is : (end : GoalsEnd) → is_good end ≡ true → end ≡ all_answered (kept_of end)
good_is (all_answered own) is = refl
good_is (goal_failed i own) is = absurd (false≢true is)
good_is (output_too_large i own) is = absurd (false≢true is)

-- a module that nothing stands against is built, with the outputs that it keeps
module _ (plan : Plan) (supply : Supply) (number : ℕ) (m : PlanModule) (outputs : ℕ → List OwnBytes) (own : List OwnBytes) (installs : m.installs ≡ true) (lacks : lacks_artifact m own ≡ false)
    (goals : run_goals m.budget (supply.answers number) 0 m.goals [] ≡ all_answered own) where
  -- a module that installs and doesn't lack its artifact is built
  install_is : verdict_of_goals m (all_answered own) ≡ record { state = state.Ended ending.Built; outputs = own }
  install_is = rw (installs, lacks) refl

  -- so where its files are had and its classpath is within the limit its verdict is built
  built_is : nat_lt most_classpath (total_len plan supply outputs m.entries) ≡ false → missing_of plan supply m.fetch ≡ None
      → verdict_of_fetch plan supply number m outputs (missing_of plan supply m.fetch) ≡ record { state = state.Ended ending.Built; outputs = own }
  built_is within had =
      ap (verdict_of_fetch plan supply number m outputs) had
      ∙ ap (λ b. if b then record { state = state.Ended ending.ClasspathTooLarge; outputs = [] } else verdict_of_goals m (run_goals m.budget (supply.answers number) 0 m.goals [])) within
      ∙ ap (verdict_of_goals m) goals ∙ install_is

module _ (plan : Plan) (start remote : Files) (fit : IsFitPlan plan) (present : IsPresent plan start) (owns : AreOwnsFit plan) (hands : ℕ → HandTold) (tell : AllTell plan (supply_of start remote []) fit.differ fit.own present hands)
    (entries : List RunEntry) (run : IsRunOf plan entries) (fits : AllFit plan (Some start) hands [] entries) (said : ℕ → ℕ → GoalAnswer) (extends : Extends (answers_in plan entries) said) where
  abbrev o : Outline
  o = outline_of plan

  abbrev supply : Supply
  supply = supply_by start remote said

  abbrev kept : List Answered
  kept = answers_in plan entries

  abbrev now : Standing
  now = standing_of_run plan entries

  abbrev files : Files
  files = contents plan start entries

  abbrev final : Files
  final = (one_thread plan supply).files

  abbrev states : ℕ → State
  states = state_at (one_thread plan supply)

  abbrev outputs : ℕ → List OwnBytes
  outputs = outputs_at (one_thread plan supply)

  -- what holds behind the run
  behind : Behind plan start remote fit.apart present fit.backed entries
  behind = (fetched_so plan start remote fit present hands tell entries run fits).0

  -- how the files of the sequential build stand
  hand : IsLeft plan supply states outputs final
  hand = hand_left plan supply fit owns

  -- how own files stand behind the run
  pub own : IsOwnSo plan start remote entries
  own = own_so plan start remote fit present owns hands tell entries run fits

  -- the upstreams of an outline's module are its plan's
  ups : (number : ℕ) (m : PlanModule) → slice_get plan.modules number ≡ Some m → upstream_of o number ≡ m.upstream
  ups number m at = ap (λ found. option_map_or (λ (x : ModuleOutline). x.upstream) found []) (get_map module_outline plan.modules number m at)

  -- the upstreams of a module that has begun are built
  all_done : (number : ℕ) (m : PlanModule) → slice_get plan.modules number ≡ Some m → is_begun (progress_of now.progress number) ≡ true → (u : ℕ) → is_listed u m.upstream ≡ true → is_done (progress_of now.progress u) ≡ true
  all_done number m at begun u l =
      let none = ap (find (λ u. not (is_done (progress_of now.progress u)))) (sym (ups number m at)) ∙ behind.ordered.begun number begun in
      not_not (is_done (progress_of now.progress u)) (find_gone (λ u. not (is_done (progress_of now.progress u))) m.upstream none u l)

  -- a built module stands as in the sequential build, and keeps the same
  once : (number : ℕ) (m : PlanModule) → slice_get plan.modules number ≡ Some m → is_done (progress_of now.progress number) ≡ true → (state_of o now.progress number ≡ states number) × (outs plan kept number ≡ outputs number)
  once = judged_once plan supply (λ number. is_done (progress_of now.progress number) ≡ true) (λ number. state_of o now.progress number) states (outs plan kept) outputs
      (λ k u n here l. (fit.low k u n here l, λ done. all_done k n here (ap is_begun (done_is (progress_of now.progress k) done)) u l)) (real plan start remote fit present hands tell) fit.backed
      (λ k n here done. ended_judged plan start remote fit present hands tell entries behind said extends (all_answered_in plan start hands entries run fits) k n ending.Built here (done_is (progress_of now.progress k) done) refl)
      (λ k n here any. hand_judged plan supply fit.apart fit.low fit.backed k n here tt)

  -- an upstream is a module of the plan
  up_in : (number u : ℕ) (m : PlanModule) → slice_get plan.modules number ≡ Some m → is_listed u m.upstream ≡ true → (n : PlanModule) × (slice_get plan.modules u ≡ Some n)
  up_in number u m at l = real plan start remote fit present hands tell number u m at (fit.low number u m at l)

  -- so in the sequential build no module that has begun is skipped
  hand_verdict : (number : ℕ) (m : PlanModule) → slice_get plan.modules number ≡ Some m → is_begun (progress_of now.progress number) ≡ true
      → ◌≡◌ {A = Verdict} (record { state = states number; outputs = outputs number }) (verdict_of_fetch plan supply number m outputs (missing_of plan supply m.fetch))
  unfolding judge
  hand_verdict number m at begun =
      hand_judged plan supply fit.apart fit.low fit.backed number m at tt
      ∙ ap (verdict_of_upstream plan supply number m outputs) (find_nothing (λ u. not (is_built (states u))) m.upstream up_built)
    where
      up_built : (u : ℕ) → is_listed u m.upstream ≡ true → not (is_built (states u)) ≡ false
      up_built u l =
          let n = up_in number u m at l in
          let done = all_done number m at begun u l in
          ap (λ s. not (is_built s)) (sym (once u n.0 n.1 done).0) ∙ ap not (state_built plan start remote fit present hands tell now.progress u ∙ done)

  -- what has begun in the run isn't skipped in the sequential build
  hand_begun : (number : ℕ) (m : PlanModule) → slice_get plan.modules number ≡ Some m → is_begun (progress_of now.progress number) ≡ true → is_skipped_state (states number) ≡ false
  hand_begun number m at begun = ap (λ (v : Verdict). is_skipped_state v.state) (hand_verdict number m at begun) ∙ not_skipped plan supply number m outputs (missing_of plan supply m.fetch)

  -- a module that has ended, but not by a fault or for want of memory, stands as in the sequential build and keeps the same
  pub ended_alike : (number : ℕ) (m : PlanModule) (x : Ending) → slice_get plan.modules number ≡ Some m → progress_of now.progress number ≡ Ended x → is_quiet_end x ≡ true
      → (state_of o now.progress number ≡ states number) × (outs plan kept number ≡ outputs number)
  ended_alike number m x at e quiet =
      let up : (u : ℕ) → is_listed u m.upstream ≡ true → (state_of o now.progress u ≡ states u) × (outs plan kept u ≡ outputs u) =
      λ u l. let n = up_in number u m at l in once u n.0 n.1 (all_done number m at (ap is_begun e) u l) in
      let same : ◌≡◌ {A = Verdict} (record { state = state_of o now.progress number; outputs = outs plan kept number }) (record { state = states number; outputs = outputs number }) =
      ended_judged plan start remote fit present hands tell entries behind said extends (all_answered_in plan start hands entries run fits) number m x at e quiet
      ∙ judge_same plan supply (λ number. state_of o now.progress number) states (outs plan kept) outputs number m (fit.backed number m at) (λ u l. (up u l).0) (λ u l. (up u l).1)
      ∙ sym (hand_judged plan supply fit.apart fit.low fit.backed number m at tt) in
      (ap (λ (v : Verdict). v.state) same, ap (λ (v : Verdict). v.outputs) same)

  abbrev Lies : List ℕ → Type 0
  Lies name = (file_at files name ≡ file_at start name) ⊎ (file_at files name ≡ file_at final name)

  -- ---- a file that is fetched

  -- a fetched file that is there has the bytes that can be had
  pub fetch_has : (f : ℕ) → IsFetchFile plan f → is_some (file_at files (name_of plan f)) ≡ true → file_at files (name_of plan f) ≡ available plan supply f
  fetch_has f fetch is = let low = owns.fetched f fetch in behind.stored.bytes f fetch low (behind.stored.there f low ∙ is)

  -- a fetched file is marked as there exactly where it is
  pub there_or : (f : ℕ) → IsFetchFile plan f → (is_there now.there f ≡ true → is_some (file_at files (name_of plan f)) ≡ true) × (is_some (file_at files (name_of plan f)) ≡ true → is_there now.there f ≡ true)
  there_or f fetch = let same = behind.stored.there f (owns.fetched f fetch) in (λ is. sym same ∙ is, λ is. same ∙ is)

  -- what isn't there wasn't at the start
  pub fetch_none : (f : ℕ) → IsFetchFile plan f → is_some (file_at files (name_of plan f)) ≡ false → file_at files (name_of plan f) ≡ file_at start (name_of plan f)
  fetch_none f fetch gone = absent (is_some (file_at start (name_of plan f))) refl
    where
      absent : (b : Bool) → is_some (file_at start (name_of plan f)) ≡ b → file_at files (name_of plan f) ≡ file_at start (name_of plan f)
      absent false e = none_is (file_at files (name_of plan f)) gone ∙ sym (none_is (file_at start (name_of plan f)) e)
      absent true e = absurd (false≢true (sym gone ∙ (there_or f fetch).0 (behind.courses.grows f (present f (owns.fetched f fetch) ∙ e))))

  -- a fetched file lies between
  fetch_lies : (f : ℕ) → IsFetchFile plan f → Lies (name_of plan f)
  fetch_lies f fetch = by (is_some (file_at files (name_of plan f))) refl
    where
      low : f < length plan.files
      low = owns.fetched f fetch

      there_is : is_there now.there f ≡ is_some (file_at files (name_of plan f))
      there_is = behind.stored.there f low

      why : is_some (file_at files (name_of plan f)) ≡ true → (is_there plan.present f ≡ true) ⊎ ((number : ℕ) × (m : PlanModule) × (slice_get plan.modules number ≡ Some m) × (is_begun (progress_of now.progress number) ≡ true) × (is_listed f (had_prefix plan supply m.fetch) ≡ true)) → Lies (name_of plan f)
      why is (inl first) = inl (fetch_has f fetch is ∙ option_or_some (file_at start (name_of plan f)) (remote_bytes remote (name_of plan f)) (sym (present f low) ∙ first))
      why is (inr r) = inr (fetch_has f fetch is ∙ sym (hand.bytes f fetch (hand.had r.0 f r.1 r.2 (hand_begun r.0 r.1 r.2 r.3) r.4)))

      by : (b : Bool) → is_some (file_at files (name_of plan f)) ≡ b → Lies (name_of plan f)
      by false e = inl (fetch_none f fetch e)
      by true e = why e ((fetched_so plan start remote fit present hands tell entries run fits).1.reason f fetch (there_is ∙ e))

  -- ---- an own file

  -- an own file that was published is as in the sequential build
  pub own_put : (number f : ℕ) (m : PlanModule) → slice_get plan.modules number ≡ Some m → is_listed f (map (λ (x : OwnFile). x.file) m.own) ≡ true → published entries f ≡ true → file_at files (name_of plan f) ≡ file_at final (name_of plan f)
  own_put number f m at mine done =
      let so = own.settled number f m at mine done in
      let late = own.late number f m at mine done in
      let bytes = own.bytes number f m at mine done in
      let begun = late_begun now number late.0 in
      let good = good_is (goals_in kept number m) so.good in
      let goals = sym (goals_extend plan start remote kept said extends number m (λ g low reached. so.answered g low)) ∙ good in
      let long = len_same plan supply m (outs plan kept) outputs (λ u l. let n = up_in number u m at l in (once u n.0 n.1 (all_done number m at begun u l)).1) m.entries (fit.backed number m at) in
      let within = ap (nat_lt most_classpath) (sym long) ∙ own.within number f m at mine done in
      let built = hand_verdict number m at begun ∙ built_is plan supply number m outputs (kept_of (goals_in kept number m)) late.1 so.artifact goals within so.had in
      let keeps = outs_at plan kept number m at ∙ sym (ap (λ (v : Verdict). v.outputs) built) in
      let same = bytes.0 ∙ ap (λ own. own_at m own f) keeps in
      same
      ∙ sym (option_or_some (own_at m (outputs number) f) (file_at start (name_of plan f)) (ap is_some (sym same) ∙ bytes.1))
      ∙ sym (ap (λ b. option_or (if b then own_at m (outputs number) f else None) (file_at start (name_of plan f))) (ap (λ b. b && m.installs) (ap (λ (v : Verdict). is_built v.state) built) ∙ late.1))
      ∙ sym (hand.own number f m at mine)

  -- an own file lies between
  own_lies : (f : ℕ) → IsOwnFile plan f → Lies (name_of plan f)
  own_lies f x = by (published entries f) refl
    where
      by : (b : Bool) → published entries f ≡ b → Lies (name_of plan f)
      by false e = inl (own.fresh f x e)
      by true e = inr (own_put x.0 f x.1 x.2 x.3 e)

  -- ---- any name

  -- a file of the plan lies between
  file_lies : (f : ℕ) → f < length plan.files → Lies (name_of plan f)
  file_lies f low = by (module_or_not (λ m. is_listed f m.fetch) plan.modules) (module_or_not (λ m. is_listed f (map (λ (x : OwnFile). x.file) m.own)) plan.modules)
    where
      by : (IsFetchFile plan f) ⊎ (IsFetchFile plan f → ⊥) → (IsOwnFile plan f) ⊎ (IsOwnFile plan f → ⊥) → Lies (name_of plan f)
      by (inl fetch) any = fetch_lies f fetch
      by (inr unfetched) (inl own) = own_lies f own
      by (inr unfetched) (inr unowned) = inl ((installed_all plan start remote fit present owns hands tell entries run fits).2 f low unfetched unowned)

  -- a name of no file is as at the start
  pub name_other : (q : List ℕ) → ((f : ℕ) → f < length plan.files → eq_by_cmp (slice_cmp nat_cmp) q (name_of plan f) ≡ false) → file_at files q ≡ file_at start q
  name_other q apart = behind.stored.other q apart

  -- so each name lies between
  pub lies : (q : List ℕ) → Lies q
  lies q = by (name_or_not q plan.files)
    where
      by : ((f : ℕ) × (f < length plan.files) × (eq_by_cmp (slice_cmp nat_cmp) q (name_of plan f) ≡ true)) ⊎ ((f : ℕ) → f < length plan.files → eq_by_cmp (slice_cmp nat_cmp) q (name_of plan f) ≡ false) → Lies q
      by (inl x) = subst Lies (sym (same_name q (name_of plan x.0) x.2)) (file_lies x.0 x.1)
      by (inr apart) = inl (behind.stored.other q apart)
