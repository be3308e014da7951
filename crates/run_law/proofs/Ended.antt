-- Modules end as they are judged.
use Rattle.std.proofs.Common.{◌≡◌, ℕ, zero, suc, ◌<◌, ◌⊎◌, inl, inr, Bool, true, false, ◌||◌, ◌&&◌, not, nat_eq, nat_lt, set, List, [], ◌∷◌, ◌++◌, find, length, slice_get, Option, Some, None, is_some, IfSome, unwrap_or, refl, arith, sym, ap, subst, ◌∙◌, if◌then◌else◌}
use Rattle.std.specs.List.{list_all}
use Rattle.std.specs.Option.{option_map_or, option_or}
use Rattle.std.proofs.lemmas.Bool.{eqb-true, false≢true}
use Rattle.std.proofs.lemmas.Bool.Decides.{nat_tests}
use Rattle.mvn_shared.specs.Files.{Files, file_at}
use Rattle.build_core.specs.declared.event.Answered.{Answered}
use Rattle.build_core.specs.declared.ending.Ending.{Ending}
use Rattle.build_core.specs.declared.ending.Ending.TheVariants as ending
use Rattle.build_core.specs.declared.plan.Entry.{Entry}
use Rattle.build_core.specs.declared.event.Event.{Event}
use Rattle.build_core.specs.declared.event.Event.TheVariants as event
use Rattle.scripts.specs.declared.outline.Outline.{Outline}
use Rattle.scripts.specs.declared.outline.ModuleOutline.{ModuleOutline}
use Rattle.goal_types.specs.declared.goal.OwnBytes.{OwnBytes}
use Rattle.build_core.specs.declared.plan.Plan.{Plan}
use Rattle.build_core.specs.declared.plan.PlanModule.{PlanModule}
use Rattle.event_core.specs.declared.module_steps.Progress.{Progress}
use Rattle.event_core.specs.declared.module_steps.Progress.TheVariants.{Waiting, Running, Skipped, Ended}
use Rattle.event_core.specs.declared.entry.RunEntry.{RunEntry}
use Rattle.build_core.specs.declared.ending.State.TheVariants as state
use Rattle.run_law.specs.Closed.{Verdict, available, missing_of, total_len, verdict_of_fetch, verdict_of_goals, verdict_of_install}
use Rattle.event_core.specs.HowFar.{is_done, is_over, is_this, is_waiting, progress_of, upstream_of}
use Rattle.event_core.specs.Enabled.{IsEnabled, ending_in_range, may_end_so, needs_artifact, off_ends, on_ends}
use Rattle.run_law.proofs.Invariants.{AreCoursesFit, AreEnded, AreGathering, AreKept, IsCourseFit, IsGathering, IsPassed, IsShaped, IsStored, IsWanting, has_answer, is_begun, is_quiet_end, outs, pending, supply_of}
use Rattle.run_law.specs.Given.{IsPresent}
use Rattle.build_core.specs.OneThread.{Supply, answer_at, lacks_artifact, most_classpath, name_of, remote_bytes}
use Rattle.scripts.specs.Outlines.{is_listed, module_outline, outline_of}
use Rattle.event_core.specs.Runs.{answers_in, contents, goals_in, standing_of_run}
use Rattle.scripts.specs.Scripts.{Script, absent, answers, answers_left, fetches, frees, is_there, is_to_install, may_end, may_publish, publishes, reads, stage_of, step, takes, wanted, whole}
use Rattle.build_core.specs.declared.mode.Mode.TheVariants.{Shared, Exclusive}
use Rattle.build_core.specs.Slots.{GoalsEnd, all_answered, goal_failed, kept_of, output_too_large, run_goals}
use Rattle.event_core.specs.SoundPlans.{is_backed}
use Rattle.event_core.specs.Standing.{Course, Standing, after, course_of, ended, goals_of, idle, module_of, off_course, on_course}
use Rattle.event_core.specs.Worlds.{FitsEnd, HandTold, IsBeyond, IsWithin, has_failed_at, is_good, is_too_large_at, stood}
use Rattle.run_law.proofs.Complete.{IsStanding}
use Rattle.run_law.proofs.RunGathering.{all_here, late_none, wanted_head}
use Rattle.run_law.proofs.Hand.{AreApart}
use Rattle.run_law.proofs.Kept.{no_goals, outs_at, outs_none, outs_same}
use Rattle.run_law.proofs.Once.{both, len_same, listed_first, listed_later}
use Rattle.run_law.proofs.Ordered.{IsOrdered, done_over}
use Rattle.run_law.proofs.Ready.{all_listed, all_had, beyond_is, file_had, within_is}
use Rattle.run_law.proofs.Stored.{get_map, none_is}
use Rattle.event_core.proofs.Weights.{nothing_is}
use Rattle.run_law.proofs.Basics.{not_not}

-- a test of numbers, as a fact
pub lt_is : (a b : ℕ) → nat_lt a b ≡ true → a < b
lt_is a b is = grind (arith, nat_tests)

-- where nothing is found, nothing passes the test
pub find_gone : (p : ℕ → Bool) (xs : List ℕ) → find p xs ≡ None → (x : ℕ) → is_listed x xs ≡ true → p x ≡ false
find_gone p [] none x l = absurd (false≢true l)
find_gone p (y ∷ xs) none x l = by (p y) refl none (nat_eq y x) refl l (λ h. find_gone p xs h x)
  where
    by : (b : Bool) → p y ≡ b → (if b then Some y else find p xs) ≡ None → (c : Bool) → nat_eq y x ≡ c → (c || is_listed x xs) ≡ true → (find p xs ≡ None → is_listed x xs ≡ true → p x ≡ false) → p x ≡ false
    by true e none c f l again = absurd (nothing_is y (sym none))
    by false e none true f l again = subst (λ z. p z ≡ false) (eqb-true y x f) e
    by false e none false f l again = again none l

-- a place that is set, or not
pub set_cases : (ps : List Progress) (m : ℕ) (p : Progress) (u : ℕ) → (progress_of (set ps m p) u ≡ progress_of ps u) ⊎ ((u ≡ m) × (progress_of (set ps m p) u ≡ p))
set_cases [] m p u = inl refl
set_cases (q ∷ ps) zero p zero = inr (refl, refl)
set_cases (q ∷ ps) zero p (suc u) = inl refl
set_cases (q ∷ ps) (suc m) p zero = inl refl
set_cases (q ∷ ps) (suc m) p (suc u) = more (set_cases ps m p u)
  where
    more : {A B : Type 0} → A ⊎ ((u ≡ m) × B) → A ⊎ ((suc u ≡ suc m) × B)
    more (inl a) = inl a
    more (inr b) = inr (ap suc b.0, b.1)

-- ---- what begins stays begun

-- what has begun stays begun where a module's progress rises
set_begun : (ps : List Progress) (m : ℕ) (p : Progress) → (is_begun (progress_of ps m) ≡ true → is_begun p ≡ true) → (u : ℕ) → is_begun (progress_of ps u) ≡ true → is_begun (progress_of (set ps m p) u) ≡ true
set_begun ps m p keeps u is = by (set_cases ps m p u)
  where
    by : (progress_of (set ps m p) u ≡ progress_of ps u) ⊎ ((u ≡ m) × (progress_of (set ps m p) u ≡ p)) → is_begun (progress_of (set ps m p) u) ≡ true
    by (inl e) = ap is_begun e ∙ is
    by (inr e) = ap is_begun e.1 ∙ keeps (subst (λ k. is_begun (progress_of ps k) ≡ true) e.0 is)

-- what waits hasn't begun
waits_begun : (p : Progress) → is_waiting p ≡ true → is_begun p ≡ true → ⊥
waits_begun Waiting w b = false≢true b
waits_begun (Running x) w b = false≢true w
waits_begun Skipped w b = false≢true b
waits_begun (Ended e) w b = false≢true w

-- what has begun stays begun behind each event
pub begun_stays : (o : Outline) (now : Standing) (e : Event) → IsEnabled o now e → (u : ℕ) → is_begun (progress_of now.progress u) ≡ true → is_begun (progress_of (after o now e).progress u) ≡ true
unfolding after
begun_stays o now (event.Start w m) is u b = set_begun now.progress m (Running w) (λ x. refl) u b
begun_stays o now (event.Skip m) is u b = set_begun now.progress m Skipped (λ x. absurd (waits_begun (progress_of now.progress m) is.1 x)) u b
begun_stays o now (event.Take w n mode) is u b = b
begun_stays o now (event.Free w n) is u b = b
begun_stays o now (event.Read w f) is u b = b
begun_stays o now (event.Publish w f) is u b = b
begun_stays o now (event.Answer w g) is u b = b
begun_stays o now (event.End w e) is u b = by (module_of (course_of now w))
  where
    by : (at : Option ℕ) → is_begun (progress_of (ended at e now.progress) u) ≡ true
    by None = b
    by (Some m) = set_begun now.progress m (Ended e) (λ x. refl) u b

-- a script that may end has nothing left to fetch
pub end_none : (s : Script) → may_end s ≡ true → pending s ≡ []
end_none whole is = refl
end_none (step stage s rest) is = absurd (false≢true is)
end_none (absent files this that) is = absurd (false≢true is)

-- installing stands behind fetching
pub install_late : (s : Script) → is_to_install s ≡ true → nat_lt 3 (stage_of s) ≡ true
install_late (step stage (takes Exclusive name) rest) is = subst (λ k. nat_lt 3 k ≡ true) (sym (eqb-true stage 6 is)) refl
install_late (step stage (takes Shared name) rest) is = absurd (false≢true is)
install_late (step stage frees rest) is = absurd (false≢true is)
install_late (step stage (reads f) rest) is = absurd (false≢true is)
install_late (step stage (fetches f) rest) is = absurd (false≢true is)
install_late (step stage (publishes f) rest) is = absurd (false≢true is)
install_late (step stage (may_publish f) rest) is = absurd (false≢true is)
install_late (step stage (answers g) rest) is = absurd (false≢true is)
install_late whole is = absurd (false≢true is)
install_late (absent files this that) is = absurd (false≢true is)

-- a number that passes for another is that one
pub this_is : (found : Option ℕ) (n : ℕ) → is_this found n ≡ true → found ≡ Some n
this_is None n is = absurd (false≢true is)
this_is (Some x) n is = ap (λ k. Some k) (eqb-true x n is)

-- what is listed in the front of a list is listed in the whole
pub listed_front : (x : ℕ) (xs ys : List ℕ) → is_listed x xs ≡ true → is_listed x (xs ++ ys) ≡ true
listed_front x [] ys l = absurd (false≢true l)
listed_front x (y ∷ xs) ys l = by (nat_eq y x) l (listed_front x xs ys)
  where
    by : (b : Bool) → (b || is_listed x xs) ≡ true → (is_listed x xs ≡ true → is_listed x (xs ++ ys) ≡ true) → (b || is_listed x (xs ++ ys)) ≡ true
    by true l again = refl
    by false l again = again l

-- an item between two parts of a list is listed
listed_mid : (x : ℕ) (xs ys : List ℕ) → is_listed x (xs ++ x ∷ ys) ≡ true
listed_mid x [] ys = listed_first x ys
listed_mid x (y ∷ xs) ys = listed_later y x (xs ++ x ∷ ys) (listed_mid x xs ys)

-- ---- of a plan

module _ (plan : Plan) (start remote : Files) (apart : AreApart plan) (present : IsPresent plan start)
    (backed : (number : ℕ) (m : PlanModule) → slice_get plan.modules number ≡ Some m → list_all (λ (e : Entry). is_backed m e.origin) m.entries ≡ true) where
  abbrev o : Outline
  o = outline_of plan

  abbrev base : Supply
  base = supply_of start remote []

  -- a module that has begun looks at upstreams that are over
  upstream_over : (now : Standing) (number : ℕ) (m : PlanModule) → IsOrdered o now → slice_get plan.modules number ≡ Some m → is_begun (progress_of now.progress number) ≡ true → (u : ℕ) → is_listed u m.upstream ≡ true → is_over (progress_of now.progress u) ≡ true
  upstream_over now number m ordered at begun u l =
      let ups : upstream_of o number ≡ m.upstream = ap (λ found. option_map_or (λ (x : ModuleOutline). x.upstream) found []) (get_map module_outline plan.modules number m at) in
      let none = subst (λ xs. find (λ u. not (is_done (progress_of now.progress u))) xs ≡ None) ups (ordered.begun number begun) in
      done_over (progress_of now.progress u) (not_not (is_done (progress_of now.progress u)) (find_gone (λ u. not (is_done (progress_of now.progress u))) m.upstream none u l))

  -- where the answers of what is over stay
  module _ (now : Standing) (kept later : List Answered) (ordered : IsOrdered o now) (same : (u : ℕ) → is_over (progress_of now.progress u) ≡ true → answer_at later u ≡ answer_at kept u) where
    -- the length of a begun module's classpath stays as it is
    pub len_stays : (number : ℕ) (m : PlanModule) → slice_get plan.modules number ≡ Some m → is_begun (progress_of now.progress number) ≡ true → total_len plan base (outs plan later) m.entries ≡ total_len plan base (outs plan kept) m.entries
    len_stays number m at begun = len_same plan base m (outs plan later) (outs plan kept) (λ u l. outs_same plan kept later u (same u (upstream_over now number m ordered at begun u l))) m.entries (backed number m at)

    -- so does its verdict
    verdict_stays : (number : ℕ) (m : PlanModule) → slice_get plan.modules number ≡ Some m → is_begun (progress_of now.progress number) ≡ true → answer_at later number ≡ answer_at kept number
        → (missing : Option ℕ) → verdict_of_fetch plan (supply_of start remote later) number m (outs plan later) missing ≡ verdict_of_fetch plan (supply_of start remote kept) number m (outs plan kept) missing
    verdict_stays number m at begun mine (Some f) = refl
    verdict_stays number m at begun mine None =
        ap (λ n. if nat_lt most_classpath n then record { state = state.Ended ending.ClasspathTooLarge; outputs = [] } else verdict_of_goals m (run_goals m.budget (answer_at later number) 0 m.goals [])) (len_stays number m at begun)
        ∙ ap (λ answers. if nat_lt most_classpath (total_len plan base (outs plan kept) m.entries) then record { state = state.Ended ending.ClasspathTooLarge; outputs = [] } else verdict_of_goals m (run_goals m.budget answers 0 m.goals [])) mine

    -- so what has ended stays as it is judged
    pub ended_stays : (next : Standing) → ((number : ℕ) (e : Ending) → progress_of next.progress number ≡ Ended e → progress_of now.progress number ≡ Ended e) → AreEnded plan start remote now kept → AreEnded plan start remote next later
    ended_stays next back are number m e at is quiet =
        let before = back number e is in
        let mine = same number (ap is_over before) in
        let old = are number m e at before quiet in
        let v = verdict_stays number m at (ap is_begun before) mine (missing_of plan base m.fetch) in
        (λ i. record { state = state.Ended e; outputs = outs_same plan kept later number mine i }) ∙ old ∙ sym v

  -- ---- a module that ends

  -- good goals are all answered
  pub good_is : (end : GoalsEnd) → is_good end ≡ true → end ≡ all_answered (kept_of end)
  good_is (all_answered own) is = refl
  good_is (goal_failed i own) is = absurd (false≢true is)
  good_is (output_too_large i own) is = absurd (false≢true is)

  -- goals with a failure at a place ended there
  failed_is : (i : ℕ) (end : GoalsEnd) → has_failed_at i end ≡ true → end ≡ goal_failed i (kept_of end)
  failed_is i (all_answered own) is = absurd (false≢true is)
  failed_is i (goal_failed j own) is = ap (λ k. goal_failed k own) (eqb-true j i is)
  failed_is i (output_too_large j own) is = absurd (false≢true is)

  -- goals with too much at a place ended there
  large_is : (i : ℕ) (end : GoalsEnd) → is_too_large_at i end ≡ true → end ≡ output_too_large i (kept_of end)
  large_is i (all_answered own) is = absurd (false≢true is)
  large_is i (goal_failed j own) is = absurd (false≢true is)
  large_is i (output_too_large j own) is = ap (λ k. output_too_large k own) (eqb-true j i is)

  -- a module that doesn't lack what it installs is built
  install_built : (a b : Bool) (own : List OwnBytes) → (a && b) ≡ false → verdict_of_install a b own ≡ record { state = state.Ended ending.Built; outputs = own }
  install_built false b own e = refl
  install_built true false own e = refl
  install_built true true own e = absurd (false≢true (sym e))

  -- one that lacks it ends without its artifact
  install_none : (a b : Bool) (own : List OwnBytes) → (a && b) ≡ true → verdict_of_install a b own ≡ record { state = state.Ended ending.NoArtifact; outputs = own }
  install_none false b own e = absurd (false≢true e)
  install_none true false own e = absurd (false≢true e)
  install_none true true own e = refl

  -- behind what fails the test, the first that passes it is found
  find_first : (p : ℕ → Bool) (passed behind : List ℕ) (f : ℕ) → ((x : ℕ) → is_listed x passed ≡ true → p x ≡ false) → p f ≡ true → find p (passed ++ f ∷ behind) ≡ Some f
  find_first p [] behind f none is = ap (λ b. if b then Some f else find p behind) is
  find_first p (x ∷ passed) behind f none is = ap (λ b. if b then Some x else find p (passed ++ f ∷ behind)) (none x (listed_first x passed)) ∙ find_first p passed behind f (λ y l. none y (listed_later x y passed l)) is

  -- all that holds behind a run
  pub record Behind (past : List RunEntry) : Type 0 where
    pub standing : IsStanding o (standing_of_run plan past)
    pub courses : AreCoursesFit o (standing_of_run plan past)
    pub stored : IsStored plan base (standing_of_run plan past) (contents plan start past)
    pub ordered : IsOrdered o (standing_of_run plan past)
    pub gathering : AreGathering o (standing_of_run plan past)
    pub kept : AreKept plan start remote (standing_of_run plan past) (answers_in plan past)
    pub ended : AreEnded plan start remote (standing_of_run plan past) (answers_in plan past)

  module _ (past : List RunEntry) (behind : Behind past) (number : ℕ) (m : PlanModule) (at : slice_get plan.modules number ≡ Some m) where
    -- the answers that are kept
    kept_now : List Answered
    kept_now = answers_in plan past

    abbrev Judgement : Ending → Type 0
    Judgement e = ◌≡◌ {A = Verdict} (record { state = state.Ended e; outputs = outs plan (answers_in plan past) number }) (verdict_of_fetch plan (supply_of start remote (answers_in plan past)) number m (outs plan (answers_in plan past)) (missing_of plan base m.fetch))

    -- where all files were there and the entries were within the limit
    by_goals : (e : Ending) → list_all (is_there (standing_of_run plan past).there) m.fetch ≡ true → nat_lt most_classpath (total_len plan base (outs plan (answers_in plan past)) m.entries) ≡ false
        → verdict_of_goals m (goals_in (answers_in plan past) number m) ≡ record { state = state.Ended e; outputs = kept_of (goals_in (answers_in plan past) number m) } → Judgement e
    by_goals e all within is =
        (λ i. record { state = state.Ended e; outputs = outs_at plan (answers_in plan past) number m at i })
        ∙ sym (ap (verdict_of_fetch plan (supply_of start remote (answers_in plan past)) number m (outs plan (answers_in plan past))) (all_had plan start remote apart number m at (backed number m at) past behind.stored all [])
        ∙ ap (λ b. if b then record { state = state.Ended ending.ClasspathTooLarge; outputs = [] } else verdict_of_goals m (goals_in (answers_in plan past) number m)) within
        ∙ is)

    -- a test that doesn't hold is false
    no_answer : (has_answer (answers_in plan past) number ≡ true → ⊥) → has_answer (answers_in plan past) number ≡ false
    no_answer not = by (has_answer (answers_in plan past) number) refl
      where
        by : (b : Bool) → has_answer (answers_in plan past) number ≡ b → has_answer (answers_in plan past) number ≡ false
        by false e = e
        by true e = absurd (not e)

    -- a module whose classpath is too large ends as judged
    by_large : list_all (is_there (standing_of_run plan past).there) m.fetch ≡ true → IsBeyond (stood plan (Some start) past number m) → Judgement ending.ClasspathTooLarge
    by_large all beyond =
        let long = beyond_is plan start remote apart number m at (backed number m at) past behind.stored all beyond in
        let none = no_answer (λ has. false≢true (sym (behind.kept.within number m at has) ∙ long)) in
        (λ i. record { state = state.Ended ending.ClasspathTooLarge; outputs = outs_none plan (answers_in plan past) number m at none i })
        ∙ sym (ap (verdict_of_fetch plan (supply_of start remote (answers_in plan past)) number m (outs plan (answers_in plan past))) (all_had plan start remote apart number m at (backed number m at) past behind.stored all [])
        ∙ ap (λ b. if b then record { state = state.Ended ending.ClasspathTooLarge; outputs = [] } else verdict_of_goals m (goals_in (answers_in plan past) number m)) long)

    -- a module for which a file is missing ends as judged
    by_missing : (f : ℕ) → IsWanting o (standing_of_run plan past).there m.fetch f → remote_bytes remote (name_of plan f) ≡ None → f < length plan.files → Judgement (ending.Missing f)
    by_missing f wanting gone low =
        let p = wanting.before in
        let absent = ap (λ x. option_or x (remote_bytes remote (name_of plan f))) (none_is (file_at start (name_of plan f)) (sym (present f low) ∙ wanting.fresh)) ∙ gone in
        let first : missing_of plan base m.fetch ≡ Some f = ap (find (λ f. not (is_some (available plan base f)))) p.split ∙ find_first (λ f. not (is_some (available plan base f))) p.passed wanting.behind f
        (λ x l. ap not (file_had plan start remote apart number m at (backed number m at) past behind.stored x (subst (λ t. is_listed x t ≡ true) (sym p.split) (listed_front x p.passed (f ∷ wanting.behind) l)) (all_listed (is_there (standing_of_run plan past).there) p.passed p.here x l)).1)
        (ap (λ x. not (is_some x)) absent) in
        let none = no_answer (λ has. nothing_is f (sym (behind.kept.had number m at has) ∙ first)) in
        (λ i. record { state = state.Ended (ending.Missing f); outputs = outs_none plan (answers_in plan past) number m at none i })
        ∙ sym (ap (verdict_of_fetch plan (supply_of start remote (answers_in plan past)) number m (outs plan (answers_in plan past))) first)

    module _ (hand : HandTold) (tells : hand.remote ≡ Some remote) (sized : length plan.present ≡ length plan.files) where
      -- a missing file is one that the remote doesn't have
      pub gone_of : (f : ℕ) → FitsEnd (stood plan (Some start) past number m) hand (ending.Missing f) → remote_bytes remote (name_of plan f) ≡ None
      gone_of f fits = subst (λ x. IfSome x (λ remote. remote_bytes remote (name_of plan f) ≡ None)) tells fits

      -- and one of the plan
      low_of : (c : Course) (f : ℕ) → ending_in_range o c (ending.Missing f) ≡ true → f < length plan.files
      low_of c f is = let small = lt_is f (length plan.present) is in omega (arith, small, sized)

      -- a module on its script
      judged_on : (script : Script) (last : Option ℕ) → IsCourseFit o (on_course number script last) → IsGathering o (standing_of_run plan past).there (on_course number script last) → (e : Ending) → is_quiet_end e ≡ true
          → on_ends o number script last e ≡ true → ending_in_range o (on_course number script last) e ≡ true → FitsEnd (stood plan (Some start) past number m) hand e → Judgement e
      judged_on script last fit gather e quiet may range fits = by e quiet may range fits
        where
          g : IsShaped m.fetch script × IsPassed (standing_of_run plan past).there m.fetch (pending script) × (is_some last ≡ true → pending script ≡ [])
          g = gather (module_outline m) (get_map module_outline plan.modules number m at)

          all : pending script ≡ [] → list_all (is_there (standing_of_run plan past).there) m.fetch ≡ true
          all none = all_here (standing_of_run plan past).there m.fetch (pending script) g.1 none

          fine : pending script ≡ [] → IsWithin (stood plan (Some start) past number m) → nat_lt most_classpath (total_len plan base (outs plan (answers_in plan past)) m.entries) ≡ false
          fine none within = within_is plan start remote apart number m at (backed number m at) past behind.stored (all none) within

          -- goals that aren't all done have an answer
          answered : (goals_in (answers_in plan past) number m ≡ all_answered [] → ⊥) → has_answer (answers_in plan past) number ≡ true
          answered isnt = by_has (has_answer (answers_in plan past) number) refl
            where
              by_has : (b : Bool) → has_answer (answers_in plan past) number ≡ b → has_answer (answers_in plan past) number ≡ true
              by_has true e = e
              by_has false e = absurd (isnt (no_goals (answers_in plan past) number m e))

          by : (e : Ending) → is_quiet_end e ≡ true → on_ends o number script last e ≡ true → ending_in_range o (on_course number script last) e ≡ true → FitsEnd (stood plan (Some start) past number m) hand e → Judgement e
          by ending.Built quiet may range fits = by_goals ending.Built (all (end_none script may)) (fine (end_none script may) fits.0) (ap (verdict_of_goals m) (good_is (goals_in (answers_in plan past) number m) fits.1) ∙ install_built m.installs (lacks_artifact m (kept_of (goals_in (answers_in plan past) number m))) (kept_of (goals_in (answers_in plan past) number m)) fits.3)
          by ending.NoArtifact quiet may range fits = by_goals ending.NoArtifact (all (late_none m.fetch script g.0 (install_late script (both (is_to_install script) (needs_artifact o number) may).0))) (fine (late_none m.fetch script g.0 (install_late script (both (is_to_install script) (needs_artifact o number) may).0)) fits.0) (ap (verdict_of_goals m) (good_is (goals_in (answers_in plan past) number m) fits.1) ∙ install_none m.installs (lacks_artifact m (kept_of (goals_in (answers_in plan past) number m))) (kept_of (goals_in (answers_in plan past) number m)) fits.2)
          by (ending.Goal i) quiet may range fits = by_goals (ending.Goal i) (all (g.2 (ap is_some (this_is last i may)))) (behind.kept.within number m at (answered (λ e. false≢true (sym (ap (has_failed_at i) e) ∙ fits)))) (ap (verdict_of_goals m) (failed_is i (goals_in (answers_in plan past) number m) fits))
          by (ending.OutputTooLarge i) quiet may range fits = by_goals (ending.OutputTooLarge i) (all (g.2 (ap is_some (this_is last i may)))) (behind.kept.within number m at (answered (λ e. false≢true (sym (ap (is_too_large_at i) e) ∙ fits)))) (ap (verdict_of_goals m) (large_is i (goals_in (answers_in plan past) number m) fits))
          by ending.ClasspathTooLarge quiet may range fits = by_large (all (late_none m.fetch script g.0 (both (nat_lt 3 (stage_of script)) (nat_eq (answers_left script) (goals_of o number)) may).0)) fits
          by (ending.Missing f) quiet may range fits =
              let want = this_is (wanted script) f may in
              let head = wanted_head script f want in
              by_missing f (record { behind = head.0; before = subst (IsPassed (standing_of_run plan past).there m.fetch) head.1 g.1; fresh = fit.1 f want }) (gone_of f fits) (low_of (on_course number script last) f range)
          by (ending.Fault device) quiet may range fits = absurd (false≢true quiet)
          by ending.Memory quiet may range fits = absurd (false≢true quiet)

      -- and one that left it
      judged_off : (file : Option ℕ) (gathered : Bool) → IsGathering o (standing_of_run plan past).there (off_course number file gathered) → (e : Ending) → is_quiet_end e ≡ true
          → off_ends file gathered e ≡ true → ending_in_range o (off_course number file gathered) e ≡ true → FitsEnd (stood plan (Some start) past number m) hand e → Judgement e
      judged_off file gathered gather e quiet may range fits = by e quiet may range fits
        where
          g : ((f : ℕ) → file ≡ Some f → IsWanting o (standing_of_run plan past).there m.fetch f) × (gathered ≡ true → list_all (is_there (standing_of_run plan past).there) m.fetch ≡ true)
          g = gather (module_outline m) (get_map module_outline plan.modules number m at)

          by : (e : Ending) → is_quiet_end e ≡ true → off_ends file gathered e ≡ true → ending_in_range o (off_course number file gathered) e ≡ true → FitsEnd (stood plan (Some start) past number m) hand e → Judgement e
          by ending.ClasspathTooLarge quiet may range fits = by_large (g.1 may) fits
          by (ending.Missing f) quiet may range fits = by_missing f (g.0 f (this_is file f may)) (gone_of f fits) (low_of (off_course number file gathered) f range)
          by ending.Built quiet may range fits = absurd (false≢true may)
          by ending.NoArtifact quiet may range fits = absurd (false≢true may)
          by (ending.Goal i) quiet may range fits = absurd (false≢true may)
          by (ending.OutputTooLarge i) quiet may range fits = absurd (false≢true may)
          by (ending.Fault device) quiet may range fits = absurd (false≢true quiet)
          by ending.Memory quiet may range fits = absurd (false≢true quiet)

      -- so each quiet end is as judged
      pub judged_end : (w : ℕ) (e : Ending) → module_of (course_of (standing_of_run plan past) w) ≡ Some number → is_quiet_end e ≡ true → may_end_so o (course_of (standing_of_run plan past) w) e ≡ true → ending_in_range o (course_of (standing_of_run plan past) w) e ≡ true → FitsEnd (stood plan (Some start) past number m) hand e → Judgement e
      judged_end w e = by (course_of (standing_of_run plan past) w) (behind.courses.courses w) (behind.gathering w)
        where
          by : (c : Course) → IsCourseFit o c → IsGathering o (standing_of_run plan past).there c → module_of c ≡ Some number → is_quiet_end e ≡ true → may_end_so o c e ≡ true → ending_in_range o c e ≡ true → FitsEnd (stood plan (Some start) past number m) hand e → Judgement e
          by idle fit gather is quiet may range fits = absurd (nothing_is number is)
          by (on_course n script last) fit gather is quiet may range fits =
              let same : n ≡ number = ap (λ x. unwrap_or x 0) is in
              judged_on script last (subst (λ k. IsCourseFit o (on_course k script last)) same fit) (subst (λ k. IsGathering o (standing_of_run plan past).there (on_course k script last)) same gather) e quiet (subst (λ k. on_ends o k script last e ≡ true) same may) (subst (λ k. ending_in_range o (on_course k script last) e ≡ true) same range) fits
          by (off_course n file gathered) fit gather is quiet may range fits =
              let same : n ≡ number = ap (λ x. unwrap_or x 0) is in
              judged_off file gathered (subst (λ k. IsGathering o (standing_of_run plan past).there (off_course k file gathered)) same gather) e quiet may (subst (λ k. ending_in_range o (off_course k file gathered) e ≡ true) same range) fits
