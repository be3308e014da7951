-- The moment at which a run keeps an answer.
use Rattle.std.proofs.Common.{◌≡◌, ℕ, ◌+◌, ◌<◌, ◌≤◌, ◌⊎◌, inl, inr, Bool, true, false, not, ◌&&◌, nat_eq, nat_lt, IfSome, List, [], ◌∷◌, ◌++◌, find, length, slice_get, Option, Some, None, is_some, option_map, unwrap_or, refl, arith, sym, ap, subst, ◌∙◌, if◌then◌else◌}
use Rattle.std.specs.Prelude.{take}
use Rattle.std.specs.List.{list_all}
use Rattle.std.specs.Option.{option_map_or, option_or}
use Rattle.std.proofs.lemmas.Bool.{eqb-true, false≢true}
use Rattle.std.proofs.lemmas.List.{append-nil, append_assoc}
use Rattle.std.proofs.lemmas.List.Folds.{find-append}
use Rattle.mvn_shared.specs.Files.{Files, file_at}
use Rattle.goal_types.specs.declared.goal.GoalAnswer.{GoalAnswer}
use Rattle.goal_types.specs.declared.goal.GoalAnswer.TheVariants.{Done}
use Rattle.goal_types.specs.declared.goal.GoalCall.{GoalCall}
use Rattle.goal_types.specs.declared.goal.GoalRequest.{GoalRequest}
use Rattle.goal_types.specs.declared.goal.OwnBytes.{OwnBytes}
use Rattle.build_core.specs.declared.ending.Ending.TheVariants as ending
use Rattle.build_core.specs.declared.ending.State.TheVariants as state
use Rattle.build_core.specs.declared.event.Answered.{Answered}
use Rattle.build_core.specs.declared.event.Event.{Event}
use Rattle.build_core.specs.declared.event.Event.TheVariants as event
use Rattle.build_core.specs.declared.plan.Plan.{Plan}
use Rattle.build_core.specs.declared.plan.PlanModule.{PlanModule}
use Rattle.build_core.specs.OneThread.{answer_at, most_classpath, name_of, one_thread, request}
use Rattle.build_core.specs.Slots.{all_answered, kept_of, run_goals}
use Rattle.scripts.specs.declared.deed.Deed.{Deed}
use Rattle.scripts.specs.declared.deed.Deed.TheVariants as deed
use Rattle.scripts.specs.declared.outline.ModuleOutline.{ModuleOutline}
use Rattle.scripts.specs.declared.outline.Outline.{Outline}
use Rattle.scripts.specs.Outlines.{is_listed, module_outline, outline_of}
use Rattle.scripts.specs.Scripts.{Script, answers_left, done, is_there}
use Rattle.event_core.specs.declared.module_steps.Progress.{Progress}
use Rattle.event_core.specs.declared.module_steps.Progress.TheVariants.{Waiting, Running, Skipped, Ended}
use Rattle.event_core.specs.HowFar.{is_done, progress_of, upstream_of}
use Rattle.event_core.specs.declared.entry.Carried.{Carried}
use Rattle.event_core.specs.declared.entry.Carried.TheVariants as carried
use Rattle.event_core.specs.declared.entry.RunEntry.{RunEntry}
use Rattle.event_core.specs.Causes.{stage_at}
use Rattle.event_core.specs.Enabled.{Enabled, IsEnabled, IsRun, is_due}
use Rattle.event_core.specs.Runs.{IsRunOf, answers_from, answers_in, contents, events_of, goals_in, kept_by, module_by, outputs_in, standing_of_run}
use Rattle.event_core.specs.Standing.{Standing, course_of, goals_of, module_of, on_course}
use Rattle.event_core.specs.Worlds.{AllFit, Fits, FitsAnswer, FitsModule, HandTold, TellsAnswer, stood}
use Rattle.event_core.proofs.Weights.{nothing_is}
use Rattle.run_law.specs.Closed.{available, missing_of, outputs_at, total_len}
use Rattle.run_law.specs.Given.{Answers, Given, IsFitting, is_answer, is_kept, outputs_after, state_after, supply_by}
use Rattle.run_law.proofs.AllAnswered.{Paid, step_paid}
use Rattle.run_law.proofs.Basics.{not_not}
use Rattle.run_law.proofs.Complete.{by_entries}
use Rattle.run_law.proofs.Ended.{Behind, find_gone, lt_is}
use Rattle.run_law.proofs.RunGathering.{all_here, done_leaves}
use Rattle.run_law.proofs.Invariants.{IsGathering, is_begun, outs, pending, supply_of}
use Rattle.run_law.proofs.JudgedRuns.{IsFitPlan, behind_all}
use Rattle.run_law.proofs.LaterMoments.{fitting_front, front, keeps, keeps_outputs}
use Rattle.run_law.proofs.Once.{both}
use Rattle.run_law.proofs.Ordered.{done_over}
use Rattle.run_law.proofs.Owed.{done_pays, owes}
use Rattle.run_law.proofs.Paid.{IsPaid, paid_first}
use Rattle.run_law.proofs.Ready.{all_had, all_listed, file_had, within_is}
use Rattle.run_law.proofs.Sounds.{sound_fit}
use Rattle.run_law.proofs.Stored.{due_on, get_map, none_is}
use Rattle.run_law.proofs.Telling.{all_told, fits_all, told}
use Rattle.run_law.specs.Placed.{IsPlacedAt}
use Rattle.run_law.proofs.Answering.{unanswered}
use Rattle.gate_laws.specs.Gates.{Test, request_in}
use Rattle.gate_laws.proofs.Goals.{goals_front, good_all}
use Rattle.gate_laws.proofs.GoalsLeft.{due_left}
use Rattle.gate_laws.proofs.Requests.{asked_so}

-- what is there, with its value
pub some_at : {X : Type 0} (found : Option X) → is_some found ≡ true → (x : X) × (found ≡ Some x)
some_at (Some x) is = (x, refl)
some_at None is = absurd (false≢true is)

-- ---- where a kept answer comes from

abbrev pub entry : ℕ → ℕ → GoalAnswer → RunEntry
entry w goal answer = record { event = event.Answer w goal; carried = carried.Answered answer }

-- an entry that keeps an answer
abbrev Made : Plan → List RunEntry → RunEntry → (number goal : ℕ) → GoalAnswer → Type 0
Made plan past e number goal answer = (w : ℕ) × (e ≡ entry w goal answer) × (module_by plan past w ≡ Some number)

made : (plan : Plan) (past : List RunEntry) (e : Event) (what : Carried) (number goal : ℕ) (a : Answered) → find (is_answer number goal) (kept_by plan past e what) ≡ Some a → Made plan past (record { event = e; carried = what }) number goal a.answer
made plan past (event.Answer w g) (carried.Answered answer) number goal a is = by (module_by plan past w) refl is
  where
    test : (k : ℕ) → module_by plan past w ≡ Some k → (b : Bool) → (nat_eq k number && nat_eq g goal) ≡ b → ◌≡◌ {A = Option Answered} (if b then Some (record { «module» = k; goal = g; answer = answer }) else None) (Some a) → Made plan past (entry w g answer) number goal a.answer
    test k whose false e is = absurd (nothing_is a is)
    test k whose true e is =
        let parts = both (nat_eq k number) (nat_eq g goal) e in (
          w,
          ap (λ x. entry w x answer) (eqb-true g goal parts.1) ∙ ap (λ (o : Option Answered). entry w goal (unwrap_or o a).answer) is,
          whose ∙ ap (λ x. Some x) (eqb-true k number parts.0),
        )

    by : (found : Option ℕ) → module_by plan past w ≡ found → find (is_answer number goal) (option_map_or (λ m. (record { «module» = m; goal = g; answer = answer }) ∷ []) found []) ≡ Some a → Made plan past (entry w g answer) number goal a.answer
    by None whose is = absurd (nothing_is a is)
    by (Some k) whose is = test k whose (nat_eq k number && nat_eq g goal) refl is
made plan past (event.Answer w g) carried.Nothing number goal a is = absurd (nothing_is a is)
made plan past (event.Answer w g) (carried.Published bytes) number goal a is = absurd (nothing_is a is)
made plan past (event.Start w m) what number goal a is = absurd (nothing_is a is)
made plan past (event.Skip m) what number goal a is = absurd (nothing_is a is)
made plan past (event.Take w n mode) what number goal a is = absurd (nothing_is a is)
made plan past (event.Free w n) what number goal a is = absurd (nothing_is a is)
made plan past (event.Read w f) what number goal a is = absurd (nothing_is a is)
made plan past (event.Publish w f) what number goal a is = absurd (nothing_is a is)
made plan past (event.End w x) what number goal a is = absurd (nothing_is a is)

-- where entries after others keep it
pub record Moment (plan : Plan) (before entries : List RunEntry) (number goal : ℕ) (answer : GoalAnswer) : Type 0 where
  pub past : List RunEntry
  pub rest : List RunEntry
  pub worker : ℕ
  pub split : entries ≡ past ++ entry worker goal answer ∷ rest
  pub whose : module_by plan (before ++ past) worker ≡ Some number

-- each kept answer comes from such an entry
pub moment : (plan : Plan) (before entries : List RunEntry) (number goal : ℕ) (a : Answered)
    → find (is_answer number goal) (answers_from plan before entries) ≡ Some a
    → Moment plan before entries number goal a.answer
moment plan before [] number goal a is = absurd (nothing_is a is)
moment plan before (e ∷ entries) number goal a is =
    by (find (is_answer number goal) (kept_by plan before e.event e.carried)) refl (sym (find-append (is_answer number goal) (kept_by plan before e.event e.carried) (answers_from plan (before ++ e ∷ []) entries)) ∙ is)
    (λ h. moment plan (before ++ e ∷ []) entries number goal a h)
  where
    by : (found : Option Answered) → find (is_answer number goal) (kept_by plan before e.event e.carried) ≡ found
        → option_or found (find (is_answer number goal) (answers_from plan (before ++ e ∷ []) entries)) ≡ Some a
        → (find (is_answer number goal) (answers_from plan (before ++ e ∷ []) entries) ≡ Some a → Moment plan (before ++ e ∷ []) entries number goal a.answer)
        → Moment plan before (e ∷ entries) number goal a.answer
    by (Some b) here is again =
        let one = made plan before e.event e.carried number goal a (here ∙ is) in
        record { past = []; rest = entries; worker = one.0; split = ap (λ x. x ∷ entries) one.1; whose = subst (λ es. module_by plan es one.0 ≡ Some number) (sym (append-nil before)) one.2 }
    by None here is again =
        let later = again is in
        record { past = e ∷ later.past; rest = later.rest; worker = later.worker; split = ap (λ es. e ∷ es) later.split; whose = subst (λ es. module_by plan es later.worker ≡ Some number) (append_assoc before (e ∷ []) later.past) later.whose }

-- the answers of two parts
answers_split : (plan : Plan) (past xs ys : List RunEntry)
    → answers_from plan past (xs ++ ys) ≡ answers_from plan past xs ++ answers_from plan (past ++ xs) ys
answers_split plan past [] ys = ap (λ es. answers_from plan es ys) (sym (append-nil past))
answers_split plan past (x ∷ xs) ys =
    ap (λ t. kept_by plan past x.event x.carried ++ t) (answers_split plan (past ++ x ∷ []) xs ys)
    ∙ ap (λ es. kept_by plan past x.event x.carried ++ (answers_from plan (past ++ x ∷ []) xs ++ answers_from plan es ys)) (append_assoc past (x ∷ []) xs)
    ∙ sym (append_assoc (kept_by plan past x.event x.carried) (answers_from plan (past ++ x ∷ []) xs) (answers_from plan (past ++ x ∷ xs) ys))

-- what fits as a whole fits at each entry
fits_at : (plan : Plan) (start : Option Files) (hands : ℕ → HandTold) (before xs : List RunEntry) (e : RunEntry) (ys : List RunEntry)
    → AllFit plan start hands before (xs ++ e ∷ ys) → Fits plan start hands (before ++ xs) e
fits_at plan start hands before [] e ys fits = subst (λ es. Fits plan start hands es e) (sym (append-nil before)) fits.0
fits_at plan start hands before (x ∷ xs) e ys fits = subst (λ es. Fits plan start hands es e) (append_assoc before (x ∷ []) xs) (fits_at plan start hands (before ++ x ∷ []) xs e ys fits.1)

-- what is done ended built
done_built : (p : Progress) → is_done p ≡ true → p ≡ Ended ending.Built
done_built (Ended ending.Built) is = refl
done_built (Ended ending.NoArtifact) is = absurd (false≢true is)
done_built (Ended ending.ClasspathTooLarge) is = absurd (false≢true is)
done_built (Ended ending.Memory) is = absurd (false≢true is)
done_built (Ended (ending.Goal i)) is = absurd (false≢true is)
done_built (Ended (ending.Missing f)) is = absurd (false≢true is)
done_built (Ended (ending.OutputTooLarge i)) is = absurd (false≢true is)
done_built (Ended (ending.Fault d)) is = absurd (false≢true is)
done_built Waiting is = absurd (false≢true is)
done_built (Running w) is = absurd (false≢true is)
done_built Skipped is = absurd (false≢true is)

-- ---- the moment

module _ (g : Given) (past rest : List RunEntry) (w number goal : ℕ) (answer : GoalAnswer) (fitting : IsFitting g (past ++ entry w goal answer ∷ rest)) (whose : module_by g.plan past w ≡ Some number)
    (m : PlanModule) (at : slice_get g.plan.modules number ≡ Some m) where
  abbrev all : List RunEntry
  all = past ++ entry w goal answer ∷ rest

  abbrev o : Outline
  o = outline_of g.plan

  abbrev now : Standing
  now = standing_of_run g.plan past

  fit : IsFitPlan g.plan
  fit = sound_fit g.plan fitting.sound

  -- the run up to the moment
  early : IsFitting g past
  early = fitting_front g past (entry w goal answer ∷ rest) fitting

  -- and from there
  parts : IsRunOf g.plan past × IsRun o (events_of past) (events_of (entry w goal answer ∷ rest))
  parts = front g.plan past (entry w goal answer ∷ rest) fitting.follows

  behind : Behind g.plan g.start g.remote fit.apart early.present fit.backed past
  behind = behind_all g.plan g.start g.remote fit early.present (told g) (all_told g early.tell) past early.follows (fits_all g past early)

  -- the answer may come
  pub may : IsEnabled o now (event.Answer w goal)
  unfolding Enabled
  may = parts.1.0

  -- the worker is at a script that wants it
  record IsAt : Type 0 where
    script : Script
    last : Option ℕ
    course : course_of now w ≡ on_course number script last
    due : is_some (done script (deed.Answer goal)) ≡ true

  here : IsAt
  here = by (due_on (course_of now w) (deed.Answer goal) may.2)
    where
      by : (k : ℕ) × (script : Script) × (last : Option ℕ) × (course_of now w ≡ on_course k script last) → IsAt
      by x =
          let same : x.0 ≡ number = ap (λ o. unwrap_or o 0) (sym (ap module_of x.3) ∙ whose) in
          let course : course_of now w ≡ on_course number x.1 x.2 = x.3 ∙ ap (λ k. on_course k x.1 x.2) same in
          record { script = x.1; last = x.2; course = course; due = subst (λ c. is_due c (deed.Answer goal) ≡ true) course may.2 }

  placed : IsPlacedAt g.plan past w number m here.script
  placed = record { run = early.follows; unit = at; last = here.last; course = here.course }

  outline_at : slice_get o.modules number ≡ Some (module_outline m)
  outline_at = get_map module_outline g.plan.modules number m at

  -- as many goals are left as from this one on
  left : answers_left here.script + goal ≡ length m.goals
  left = due_left g.plan past w number m here.script placed goal here.due

  -- the goal is one of the module's
  pub in_goals : goal < length m.goals
  in_goals =
      let many : goals_of o number ≡ length m.goals = ap (λ x. option_map_or (λ (y : ModuleOutline). y.goals) x 0) outline_at in
      let low : goal < goals_of o number = lt_is goal (goals_of o number) (subst (λ x. option_map_or (λ k. nat_lt goal (goals_of o k)) x true ≡ true) whose may.1) in
      omega (arith, many, low)

  -- all that the module fetches is there
  full : list_all (is_there now.there) m.fetch ≡ true
  full =
      let gather : IsGathering o now.there (on_course number here.script here.last) = subst (IsGathering o now.there) here.course (behind.gathering w) in
      let facts = gather (module_outline m) outline_at in
      let after = some_at (done here.script (deed.Answer goal)) here.due in
      let leaves = done_leaves m.fetch here.script (deed.Answer goal) after.0 facts.0 after.1 in
      all_here now.there m.fetch (pending here.script) facts.1 (by leaves.1 (leaves.2 goal refl))
    where
      by : {s r : List ℕ} → ((s ≡ r) ⊎ ((f : ℕ) × (deed.Answer goal ≡ deed.Publish f) × (s ≡ f ∷ r))) → r ≡ [] → s ≡ []
      by (inl e) none = e ∙ none
      by (inr x) none = absurd (false≢true (ap publishing x.1))
        where
          publishing : Deed → Bool
          publishing (deed.Publish f) = true
          publishing other = false

  -- so each fetched file has the bytes that can be had
  bytes : (f : ℕ) → is_listed f m.fetch ≡ true
      → file_at (contents g.plan g.start past) (name_of g.plan f) ≡ available g.plan (supply_of g.start g.remote []) f
  bytes f l = (file_had g.plan g.start g.remote fit.apart number m at (fit.backed number m at) past behind.stored f l (all_listed (is_there now.there) m.fetch full f l)).0

  -- and none is missing
  pub none_missing : (said : Answers) → missing_of g.plan (supply_by g.start g.remote said) m.fetch ≡ None
  none_missing said = all_had g.plan g.start g.remote fit.apart number m at (fit.backed number m at) past behind.stored full []

  -- its row
  row : FitsAnswer (stood g.plan (Some g.start) past number m) (g.hands w) goal (carried.Answered answer)
  row =
      let fits = fits_at g.plan (Some g.start) g.hands [] past (entry w goal answer) rest fitting.fits in
      let one = subst (λ x. IfSome x (λ k. IfSome (slice_get g.plan.modules k) (λ n. FitsModule (stood g.plan (Some g.start) past k n) (g.hands w) (stage_at (course_of now w)) (event.Answer w goal) (carried.Answered answer)))) whose fits.1 in
      subst (λ x. IfSome x (λ n. FitsModule (stood g.plan (Some g.start) past number n) (g.hands w) (stage_at (course_of now w)) (event.Answer w goal) (carried.Answered answer))) at one

  abbrev pub own : List OwnBytes
  own = kept_of (goals_in (answers_in g.plan past) number m)

  abbrev asked : GoalCall → GoalRequest
  asked call = request g.plan (contents g.plan g.start past) (outputs_in g.plan past) m call own

  -- the answer is the gate's to what is asked
  pub passes : (test : Test) → (g.hands w).gate ≡ Some test → (call : GoalCall) → slice_get m.goals goal ≡ Some call
      → test (asked call) answer ≡ true
  passes test tells call is =
      subst (λ x. IfSome x (λ c. TellsAnswer (carried.Answered answer) (test (asked c)))) is
      (subst (λ x. IfSome x (λ t. IfSome (slice_get m.goals goal) (λ c. TellsAnswer (carried.Answered answer) (t (asked c))))) tells row.2)

  -- the classpath is within the limit
  pub within : nat_lt most_classpath (total_len g.plan (supply_of g.start g.remote []) (outs g.plan (answers_in g.plan past)) m.entries) ≡ false
  within = within_is g.plan g.start g.remote fit.apart number m at (fit.backed number m at) past behind.stored full row.0

  -- ---- upstreams

  -- each is built, at the moment
  up_done : (u : ℕ) → is_listed u m.upstream ≡ true → is_done (progress_of now.progress u) ≡ true
  up_done u l =
      let ups : upstream_of o number ≡ m.upstream = ap (λ found. option_map_or (λ (x : ModuleOutline). x.upstream) found []) outline_at in
      let begun : is_begun (progress_of now.progress number) ≡ true = ap is_begun (behind.standing.tied.busy w number whose) in
      let none = subst (λ xs. find (λ u. not (is_done (progress_of now.progress u))) xs ≡ None) ups (behind.ordered.begun number begun) in
      not_not (is_done (progress_of now.progress u)) (find_gone (λ u. not (is_done (progress_of now.progress u))) m.upstream none u l)

  -- and after the run
  pub up_built : (u : ℕ) → is_listed u m.upstream ≡ true → state_after g.plan all u ≡ state.Ended ending.Built
  up_built u l = rw ended refl
    where
      ended : progress_of (standing_of_run g.plan all).progress u ≡ Ended ending.Built
      ended = (keeps g.plan u past (entry w goal answer ∷ rest) parts.0 parts.1 (done_over (progress_of now.progress u) (up_done u l))).0 ∙ done_built (progress_of now.progress u) (up_done u l)

  -- it keeps what it kept
  pub up_keeps : (u : ℕ) → is_listed u m.upstream ≡ true → outputs_after g.plan all u ≡ outputs_after g.plan past u
  up_keeps u l = keeps_outputs g.plan u past (entry w goal answer ∷ rest) parts.0 parts.1 (done_over (progress_of now.progress u) (up_done u l))

  -- ---- goals

  -- each goal before is answered
  paid : (j : ℕ) → j < goal → is_kept (answers_in g.plan past) number j ≡ true
  paid j low =
      let all_paid = by_entries g.plan g.start g.hands (Paid g.plan) (step_paid g.plan g.start g.hands) [] past (paid_first o (is_kept [])) early.follows early.fits in
      let mine : IsPaid o (is_kept (answers_in g.plan past)) (on_course number here.script here.last) = subst (IsPaid o (is_kept (answers_in g.plan past))) here.course (all_paid.courses w) in
      let is = mine (module_outline m) outline_at in
      let after = some_at (done here.script (deed.Answer goal)) here.due in
      let pays = done_pays here.script (deed.Answer goal) after.0 is.0 after.1 in
      is.1 j (omega (arith, low, left)) (by (pays.1 j (pays.2 goal j refl (omega (arith, low)))))
    where
      goal_of : Deed → ℕ
      goal_of (deed.Answer h) = h
      goal_of other = 0

      by : (owes j here.script ≡ false) ⊎ (deed.Answer goal ≡ deed.Answer j) → owes j here.script ≡ false
      by (inl e) = e
      by (inr e) = let same : goal ≡ j = ap goal_of e in absurd (omega (arith, same, low))

  -- what is found up to the moment is found in the run
  found_later : (n i : ℕ) (a : Answered) → find (is_answer n i) (answers_in g.plan past) ≡ Some a
      → find (is_answer n i) (answers_in g.plan all) ≡ Some a
  found_later n i a e =
      ap (find (is_answer n i)) (answers_split g.plan [] past (entry w goal answer ∷ rest))
      ∙ find-append (is_answer n i) (answers_in g.plan past) (answers_from g.plan past (entry w goal answer ∷ rest))
      ∙ ap (λ x. option_or x (find (is_answer n i) (answers_from g.plan past (entry w goal answer ∷ rest)))) e

  -- and each from this one on is none
  done_later : (j : ℕ) → goal ≤ j → answer_at (answers_in g.plan past) number j ≡ Done
  done_later j low = ap (λ x. unwrap_or (option_map (λ (a : Answered). a.answer) x) Done) (none_is (find (is_answer number j) (answers_in g.plan past)) (unanswered g.plan past w number m here.script placed goal j left low))

  module _ (said : Answers) (agrees : (j : ℕ) (a : Answered) → j < goal → find (is_answer number j) (answers_in g.plan all) ≡ Some a → said number j ≡ a.answer) where
    -- the answers before are these
    same_before : (j : ℕ) → j < goal → said number j ≡ answer_at (answers_in g.plan past) number j
    same_before j low =
        let has = some_at (find (is_answer number j) (answers_in g.plan past)) (paid j low) in
        agrees j has.0 low (found_later number j has.0 has.1) ∙ sym (ap (λ x. unwrap_or (option_map (λ (a : Answered). a.answer) x) Done) has.1)

    -- so the goals before it are good, and keep what is kept then
    pub good_before : run_goals m.budget (said number) 0 (take goal m.goals) [] ≡ all_answered own
    good_before =
        goals_front m.budget (answer_at (answers_in g.plan past) number) (said number) goal 0 m.goals [] own
        (λ k low. same_before k (omega (arith, low))) (λ k high. done_later k (omega (arith, high))) (good_all (goals_in (answers_in g.plan past) number m) row.1)

    -- so what is asked is what the sequential build asks
    pub asked_same : (call : GoalCall)
        → ((u : ℕ) → is_listed u m.upstream ≡ true → outputs_after g.plan all u ≡ outputs_at (one_thread g.plan (supply_by g.start g.remote said)) u)
        → asked call ≡ request_in g.plan (supply_by g.start g.remote said) number m goal call
    asked_same call ups =
        asked_so g.plan (supply_by g.start g.remote said) fit number m at goal call (contents g.plan g.start past) (outputs_in g.plan past) own (none_missing said)
        bytes (λ u l. sym (up_keeps u l) ∙ ups u l) (sym (ap kept_of good_before))
