-- The answers of gates that tell one function.
use Rattle.std.proofs.Common.{◌≡◌, ℕ, zero, suc, ◌+◌, ◌<◌, ◌⊎◌, inl, inr, Bool, true, false, not, nat_lt, List, [], ◌∷◌, ◌++◌, find, length, slice_get, Option, Some, None, is_some, refl, arith, sym, ap, subst, ◌∙◌, if◌then◌else◌}
use Rattle.std.specs.Prelude.{take}
use Rattle.std.specs.Option.{option_or}
use Rattle.std.proofs.lemmas.Bool.{false≢true, lt-ltb}
use Rattle.mvn_shared.specs.Files.{Files, file_at}
use Rattle.goal_types.specs.declared.goal.GoalAnswer.{GoalAnswer}
use Rattle.goal_types.specs.declared.goal.GoalCall.{GoalCall}
use Rattle.goal_types.specs.declared.goal.OwnBytes.{OwnBytes}
use Rattle.build_core.specs.declared.ending.Ending.{Ending}
use Rattle.build_core.specs.declared.ending.Ending.TheVariants as ending
use Rattle.build_core.specs.declared.ending.State.{State}
use Rattle.build_core.specs.declared.ending.State.TheVariants as state
use Rattle.build_core.specs.declared.event.Answered.{Answered}
use Rattle.build_core.specs.declared.plan.Plan.{Plan}
use Rattle.build_core.specs.declared.plan.PlanModule.{PlanModule}
use Rattle.build_core.specs.OneThread.{Progress, Supply, answer_at, fetched, is_built, lacks_artifact, most_classpath, name_of, one_thread, remote_bytes}
use Rattle.build_core.specs.Slots.{GoalsEnd, all_answered, goal_failed, output_too_large, run_goals, slots_before}
use Rattle.scripts.specs.Outlines.{is_listed, module_outline, outline_of}
use Rattle.event_core.specs.declared.entry.RunEntry.{RunEntry}
use Rattle.event_core.specs.Runs.{answers_in, events_of, module_by}
use Rattle.event_core.specs.SoundPlans.{IsSoundPlan}
use Rattle.run_law.specs.Closed.{Verdict, available, judge, missing_of, outputs_at, state_at, total_len, verdict_of_fetch, verdict_of_goals, verdict_of_install, verdict_of_upstream}
use Rattle.run_law.specs.Given.{Answers, Extends, Given, IsBetween, IsFitting, IsWhole, is_answer, is_kept, outputs_after, reaches, supply_by}
use Rattle.run_law.proofs.Betweens.{option_or_some}
use Rattle.run_law.proofs.ClosedFiles.{IsLeft}
use Rattle.run_law.proofs.Complete.{standing}
use Rattle.run_law.proofs.Contents.{sound_owns}
use Rattle.run_law.proofs.Ended.{lt_is}
use Rattle.run_law.proofs.Extending.{extends_itself}
use Rattle.run_law.proofs.Fold.{hand_judged, in_list}
use Rattle.run_law.proofs.HandFiles.{hand_left}
use Rattle.run_law.proofs.Invariants.{IsFetchFile, outs}
use Rattle.run_law.proofs.JudgedRuns.{IsFitPlan}
use Rattle.run_law.proofs.Kept.{outputs_are}
use Rattle.run_law.proofs.LaterMoments.{fitting_front}
use Rattle.run_law.proofs.Laws.{again_same, answered, ended_keeps, ended_so}
use Rattle.run_law.proofs.Once.{find_same, judged_once, len_same}
use Rattle.run_law.proofs.Reached.{is_reached}
use Rattle.run_law.proofs.Ready.{find_nothing}
use Rattle.run_law.proofs.Sounds.{sound_fit}
use Rattle.run_law.proofs.Stored.{get_in, length_map, none_is}
use Rattle.gate_laws.specs.Gates.{AllGates, AreGates, IsFunction, Test, before, request_in}
use Rattle.gate_laws.proofs.Goals.{goals_reach}
use Rattle.gate_laws.proofs.Moments.{asked_same, entry, good_before, in_goals, may, moment, none_missing, own, passes, some_at, up_built, up_keeps, within}
use Rattle.gate_laws.proofs.Requests.{asked_so, file_before, kept_before}

-- ---- each kept answer is the function's

-- an upstream is a module of the plan
up_low : (plan : Plan) (fit : IsFitPlan plan) (number u : ℕ) (m : PlanModule) → slice_get plan.modules number ≡ Some m
    → is_listed u m.upstream ≡ true → u < length plan.modules
up_low plan fit number u m at l = let less = fit.low number u m at l in let inside = in_list plan.modules number m at in omega (arith, less, inside)

-- at the moment that it is kept
kept_at : (g : Given) (said : Answers) (test : Test) → AllGates g test
    → (past rest : List RunEntry) (w number goal : ℕ) (answer : GoalAnswer) (fitting : IsFitting g (past ++ entry w goal answer ∷ rest))
    → Extends (answers_in g.plan (past ++ entry w goal answer ∷ rest)) said
    → (whose : module_by g.plan past w ≡ Some number) (m : PlanModule) (call : GoalCall) (at : slice_get g.plan.modules number ≡ Some m)
    → slice_get m.goals goal ≡ Some call
    → test (request_in g.plan (supply_by g.start g.remote said) number m goal call) answer ≡ true
kept_at g said test gates past rest w number goal answer fitting extends whose m call at there =
    subst (λ r. test r answer ≡ true)
    (asked_same g past rest w number goal answer fitting whose m at said (λ j a low found. extends number j a found) call
    (λ u l. ended_keeps g (past ++ entry w goal answer ∷ rest) said fitting extends u ending.Built (up_low g.plan (sound_fit g.plan fitting.sound) number u m at l) (up_built g past rest w number goal answer fitting whose m at u l) refl))
    (passes g past rest w number goal answer fitting whose m at test (gates w (may g past rest w number goal answer fitting whose m at).0) call there)

pub kept_law : (g : Given) (run : List RunEntry) (said : Answers) (test : Test) → IsFitting g run → AllGates g test
    → Extends (answers_in g.plan run) said → (number goal : ℕ) (m : PlanModule) (call : GoalCall)
    → slice_get g.plan.modules number ≡ Some m → slice_get m.goals goal ≡ Some call
    → is_kept (answers_in g.plan run) number goal ≡ true
    → test (request_in g.plan (supply_by g.start g.remote said) number m goal call) (said number goal) ≡ true
kept_law g run said test fitting gates extends number goal m call at there is =
    let has = some_at (find (is_answer number goal) (answers_in g.plan run)) is in
    let a : Answered = has.0 in
    let when = moment g.plan [] run number goal a has.1 in
    subst (λ x. test (request_in g.plan (supply_by g.start g.remote said) number m goal call) x ≡ true) (sym (extends number goal a has.1))
    (kept_at g said test gates when.past when.rest when.worker number goal a.answer (subst (IsFitting g) when.split fitting) (subst (λ r. Extends (answers_in g.plan r) said) when.split extends) when.whose m call at there)

-- a whole run keeps an answer of each goal that the sequential build comes to
pub whole_law : (g : Given) (run : List RunEntry) (said : Answers) (test : Test) → IsWhole g run → AllGates g test
    → Extends (answers_in g.plan run) said → AreGates g.plan (supply_by g.start g.remote said) test
whole_law g run said test whole gates extends number goal m call e at there ends reached =
    kept_law g run said test whole.fitting gates extends number goal m call at there (answered g run said whole extends number goal m e at ends (in_list m.goals goal call there) reached)

-- ---- the sequential build, by the answers of its first modules

-- a module's verdict looks at no other module's answers
judge_answers : (plan : Plan) (start remote : Files) (one two : Answers) (states : ℕ → State) (outputs : ℕ → List OwnBytes) (number : ℕ) (m : PlanModule)
    → one number ≡ two number
    → judge plan (supply_by start remote one) states outputs number m ≡ judge plan (supply_by start remote two) states outputs number m
unfolding judge
judge_answers plan start remote one two states outputs number m same = by (find (λ u. not (is_built (states u))) m.upstream)
  where
    entries : (missing : Option ℕ)
        → verdict_of_fetch plan (supply_by start remote one) number m outputs missing ≡ verdict_of_fetch plan (supply_by start remote two) number m outputs missing
    entries (Some f) = refl
    entries None = ap (λ answers. if nat_lt most_classpath (total_len plan (supply_by start remote two) outputs m.entries) then record { state = state.Ended ending.ClasspathTooLarge; outputs = [] } else verdict_of_goals m (run_goals m.budget answers 0 m.goals [])) same

    by : (found : Option ℕ)
        → verdict_of_upstream plan (supply_by start remote one) number m outputs found ≡ verdict_of_upstream plan (supply_by start remote two) number m outputs found
    by (Some u) = refl
    by None = entries (missing_of plan (supply_by start remote two) m.fetch)

-- so two builds whose answers are the same below a module go the same below it
goes_same : (plan : Plan) (start remote : Files) (fit : IsFitPlan plan) (one two : Answers) (number : ℕ)
    → ((n : ℕ) → n < number → one n ≡ two n) → (u : ℕ) (m : PlanModule) → slice_get plan.modules u ≡ Some m → u < number
    → (state_at (one_thread plan (supply_by start remote one)) u ≡ state_at (one_thread plan (supply_by start remote two)) u) × (outputs_at (one_thread plan (supply_by start remote one)) u ≡ outputs_at (one_thread plan (supply_by start remote two)) u)
goes_same plan start remote fit one two number same =
    let first = one_thread plan (supply_by start remote one) in
    let second = one_thread plan (supply_by start remote two) in
    judged_once plan (supply_by start remote two) (λ u. u < number) (state_at first) (state_at second) (outputs_at first) (outputs_at second)
    (λ k u n here l. let low = fit.low k u n here l in (low, λ less. omega (arith, low, less)))
    (λ k u n here less. get_in plan.modules u (let inside = in_list plan.modules k n here in omega (arith, less, inside)))
    fit.backed
    (λ k n here less. hand_judged plan (supply_by start remote one) fit.apart fit.low fit.backed k n here tt ∙ judge_answers plan start remote one two (state_at first) (outputs_at first) k n (same k less))
    (λ k n here less. hand_judged plan (supply_by start remote two) fit.apart fit.low fit.backed k n here tt)

-- ---- which goals it comes to

-- an ending with goals that were reached stands for them
verdict_reaches : (m : PlanModule) (end : GoalsEnd) (g : ℕ) → is_reached end g ≡ true
    → (e : Ending) × ((verdict_of_goals m end).state ≡ state.Ended e) × (reaches e g ≡ true)
verdict_reaches m (all_answered kept) g is = by m.installs (lacks_artifact m kept)
  where
    by : (installs lacks : Bool)
        → (e : Ending) × ((verdict_of_install installs lacks kept).state ≡ state.Ended e) × (reaches e g ≡ true)
    by true true = (ending.NoArtifact, refl, refl)
    by true false = (ending.Built, refl, refl)
    by false lacks = (ending.Built, refl, refl)
verdict_reaches m (goal_failed i kept) g is = (ending.Goal i, refl, is)
verdict_reaches m (output_too_large i kept) g is = (ending.OutputTooLarge i, refl, is)

-- a module whose upstreams are built, whose files can be had within the limit, is judged by its goals
judge_goals : (plan : Plan) (supply : Supply) (states : ℕ → State) (outputs : ℕ → List OwnBytes) (number : ℕ) (m : PlanModule)
    → find (λ u. not (is_built (states u))) m.upstream ≡ None → missing_of plan supply m.fetch ≡ None
    → nat_lt most_classpath (total_len plan supply outputs m.entries) ≡ false
    → judge plan supply states outputs number m ≡ verdict_of_goals m (run_goals m.budget (supply.answers number) 0 m.goals [])
unfolding judge
judge_goals plan supply states outputs number m built had short =
    ap (verdict_of_upstream plan supply number m outputs) built ∙ ap (verdict_of_fetch plan supply number m outputs) had
    ∙ ap (λ b. if b then record { state = state.Ended ending.ClasspathTooLarge; outputs = [] } else verdict_of_goals m (run_goals m.budget (supply.answers number) 0 m.goals [])) short

-- ---- the function's answers are those that are kept

abbrev Agrees : Plan → Answers → List RunEntry → ℕ → ℕ → Type 0
Agrees plan said run n i = (a : Answered) → find (is_answer n i) (answers_in plan run) ≡ Some a → said n i ≡ a.answer

-- these answers below a module, and the kept ones from it on
abbrev mixed : Plan → Answers → List RunEntry → ℕ → Answers
mixed plan said run number n i = if nat_lt n number then said n i else answer_at (answers_in plan run) n i

module _ (plan : Plan) (said : Answers) (run : List RunEntry) (number : ℕ) (below : (n i : ℕ) → n < number → Agrees plan said run n i) where
  mixed_extends : Extends (answers_in plan run) (mixed plan said run number)
  mixed_extends n i a e = by (nat_lt n number) refl
    where
      by : (b : Bool) → nat_lt n number ≡ b → (if b then said n i else answer_at (answers_in plan run) n i) ≡ a.answer
      by true low = below n i (lt_is n number low) a e
      by false high = extends_itself (answers_in plan run) n i a e

mixed_same : (plan : Plan) (said : Answers) (run : List RunEntry) (number n : ℕ) → n < number
    → mixed plan said run number n ≡ said n
mixed_same plan said run number n low = λ j i. ap (λ b. if b then said n i else answer_at (answers_in plan run) n i) (lt-ltb n number low) j

module _ (g : Given) (said : Answers) (test : Test) (gates : AllGates g test) (function : IsFunction test) (are : AreGates g.plan (supply_by g.start g.remote said) test)
    (past rest : List RunEntry) (w number goal : ℕ) (answer : GoalAnswer) (fitting : IsFitting g (past ++ entry w goal answer ∷ rest)) (whose : module_by g.plan past w ≡ Some number)
    (below : (n i : ℕ) → n < number → Agrees g.plan said (past ++ entry w goal answer ∷ rest) n i) (lower : (j : ℕ) → j < goal → Agrees g.plan said (past ++ entry w goal answer ∷ rest) number j)
    (m : PlanModule) (at : slice_get g.plan.modules number ≡ Some m) where
  abbrev all : List RunEntry
  all = past ++ entry w goal answer ∷ rest

  abbrev supply : Supply
  supply = supply_by g.start g.remote said

  abbrev one : Progress
  one = one_thread g.plan supply

  fit : IsFitPlan g.plan
  fit = sound_fit g.plan fitting.sound

  -- an upstream stands and keeps in the sequential build as in the run
  ups : (u : ℕ) → is_listed u m.upstream ≡ true
      → (state_at one u ≡ state.Ended ending.Built) × (outputs_after g.plan all u ≡ outputs_at one u)
  ups u l =
      let low = up_low g.plan fit number u m at l in
      let n = get_in g.plan.modules u low in
      let more = mixed g.plan said all number in
      let extends = mixed_extends g.plan said all number below in
      let built = up_built g past rest w number goal answer fitting whose m at u l in
      let same = goes_same g.plan g.start g.remote fit more said number (λ k less. mixed_same g.plan said all number k less) u n.0 n.1 (fit.low number u m at l) in
      (sym same.0 ∙ ended_so g all more fitting extends u ending.Built low built refl, ended_keeps g all more fitting extends u ending.Built low built refl ∙ same.1)

  -- the goals before are good
  good : run_goals m.budget (said number) 0 (take goal m.goals) [] ≡ all_answered (own g past rest w number goal answer fitting whose m at)
  good = good_before g past rest w number goal answer fitting whose m at said (λ j a low found. lower j low a found)

  -- the sequential build comes to the goal
  comes : (e : Ending) × (state_at one number ≡ state.Ended e) × (reaches e goal ≡ true)
  comes =
      let short : nat_lt most_classpath (total_len g.plan supply (outputs_at one) m.entries) ≡ false =
      subst (λ n. nat_lt most_classpath n ≡ false) (len_same g.plan supply m (outs g.plan (answers_in g.plan past)) (outputs_at one) (λ u l. sym (outputs_are g.plan past u) ∙ sym (up_keeps g past rest w number goal answer fitting whose m at u l) ∙ (ups u l).1) m.entries (fit.backed number m at))
      (within g past rest w number goal answer fitting whose m at) in
      let built : find (λ u. not (is_built (state_at one u))) m.upstream ≡ None = find_nothing (λ u. not (is_built (state_at one u))) m.upstream (λ u l. ap (λ s. not (is_built s)) (ups u l).0) in
      let judged = hand_judged g.plan supply fit.apart fit.low fit.backed number m at tt ∙ judge_goals g.plan supply (state_at one) (outputs_at one) number m built (none_missing g past rest w number goal answer fitting whose m at said) short in
      let zero_more : 0 + goal ≡ goal = omega arith in
      let met : is_reached (run_goals m.budget (said number) 0 m.goals []) goal ≡ true =
      subst (λ k. is_reached (run_goals m.budget (said number) 0 m.goals []) k ≡ true) zero_more (goals_reach m.budget (said number) goal 0 m.goals [] (own g past rest w number goal answer fitting whose m at) good) in
      let stands = verdict_reaches m (run_goals m.budget (said number) 0 m.goals []) goal met in
      (stands.0, ap (λ (v : Verdict). v.state) judged ∙ stands.1, stands.2)

  -- so its answer is the function's to the same request, and the same
  same_answer : said number goal ≡ answer
  same_answer =
      let call = get_in m.goals goal (in_goals g past rest w number goal answer fitting whose m at) in
      let asks = asked_same g past rest w number goal answer fitting whose m at said (λ j a low found. lower j low a found) call.0 (λ u l. (ups u l).1) in
      function (request_in g.plan supply number m goal call.0) (said number goal) answer
      (are number goal m call.0 comes.0 at call.1 comes.1 comes.2)
      (subst (λ r. test r answer ≡ true) asks (passes g past rest w number goal answer fitting whose m at test (gates w (may g past rest w number goal answer fitting whose m at).0) call.0 call.1))

-- a worker's module is the plan's
unit_of : (g : Given) (past : List RunEntry) (w number : ℕ) → IsFitting g past → module_by g.plan past w ≡ Some number
    → (m : PlanModule) × (slice_get g.plan.modules number ≡ Some m)
unit_of g past w number fitting whose =
    let real = (standing (outline_of g.plan) (events_of past) fitting.follows).tied.real w number whose in
    let long = length_map module_outline g.plan.modules in
    get_in g.plan.modules number (omega (arith, real, long))

module _ (g : Given) (run : List RunEntry) (said : Answers) (test : Test) (fitting : IsFitting g run) (gates : AllGates g test) (function : IsFunction test) (are : AreGates g.plan (supply_by g.start g.remote said) test) where
  -- a goal's answer, where all before it agree
  agrees_next : (number goal : ℕ) → ((n i : ℕ) → n < number → Agrees g.plan said run n i)
      → ((j : ℕ) → j < goal → Agrees g.plan said run number j) → Agrees g.plan said run number goal
  agrees_next number goal below lower a found =
      let when = moment g.plan [] run number goal a found in
      subst (λ r. IsFitting g r → ((n i : ℕ) → n < number → Agrees g.plan said r n i) → ((j : ℕ) → j < goal → Agrees g.plan said r number j) → said number goal ≡ a.answer) (sym when.split)
      (λ fits under before.
      let unit = unit_of g when.past when.worker number (fitting_front g when.past (entry when.worker goal a.answer ∷ when.rest) fits) when.whose in
      same_answer g said test gates function are when.past when.rest when.worker number goal a.answer fits when.whose under before unit.0 unit.1)
      fitting below lower

  -- so all goals of a module
  agrees_module : (number : ℕ) → ((n i : ℕ) → n < number → Agrees g.plan said run n i) → (bound goal : ℕ) → goal < bound
      → Agrees g.plan said run number goal
  agrees_module number below zero goal low = absurd (omega (arith, low))
  agrees_module number below (suc bound) goal low = agrees_next number goal below (λ j less. agrees_module number below bound j (omega (arith, less, low)))

  -- so all modules
  agrees_all : (bound number goal : ℕ) → number < bound → Agrees g.plan said run number goal
  agrees_all zero number goal low = absurd (omega (arith, low))
  agrees_all (suc bound) number goal low = agrees_module number (λ n i less. agrees_all bound n i (omega (arith, less, low))) (suc goal) goal (omega arith)

  pub same_law : Extends (answers_in g.plan run) said
  same_law number goal a found = agrees_all (suc number) number goal (omega arith) a found

-- ---- over other files of the repository

abbrev reaches_in : State → ℕ → Bool
reaches_in (state.Ended e) g = reaches e g
reaches_in other g = false

-- where a module's goals are reached none of its files is missing
reached_had : (plan : Plan) (supply : Supply) (states : ℕ → State) (outputs : ℕ → List OwnBytes) (number goal : ℕ) (m : PlanModule)
    → reaches_in (judge plan supply states outputs number m).state goal ≡ true → missing_of plan supply m.fetch ≡ None
unfolding judge
reached_had plan supply states outputs number goal m is = by (find (λ u. not (is_built (states u))) m.upstream) is
  where
    had : (missing : Option ℕ) → missing_of plan supply m.fetch ≡ missing
        → reaches_in (verdict_of_fetch plan supply number m outputs missing).state goal ≡ true
        → missing_of plan supply m.fetch ≡ None
    had None e is = e
    had (Some f) e is = absurd (false≢true is)

    by : (found : Option ℕ) → reaches_in (verdict_of_upstream plan supply number m outputs found).state goal ≡ true
        → missing_of plan supply m.fetch ≡ None
    by (Some u) is = absurd (false≢true is)
    by None is = had (missing_of plan supply m.fetch) refl is

module _ (plan : Plan) (start mid remote : Files) (said : Answers) (sound : IsSoundPlan plan) (between : IsBetween start (one_thread plan (supply_by start remote said)).files mid) where
  abbrev first : Supply
  first = supply_by start remote said

  abbrev again : Supply
  again = supply_by mid remote said

  abbrev once : Progress
  once = one_thread plan first

  fit_again : IsFitPlan plan
  fit_again = sound_fit plan sound

  left : IsLeft plan first (state_at once) (outputs_at once) once.files
  left = hand_left plan first fit_again (sound_owns plan sound)

  -- a fetched file can be had the same
  have_same : (f : ℕ) → IsFetchFile plan f → available plan again f ≡ available plan first f
  have_same f fetch = by (between (name_of plan f))
    where
      none : (b : Bool) → is_some (file_at start (name_of plan f)) ≡ b
          → is_some (file_at once.files (name_of plan f)) ≡ false
          → file_at once.files (name_of plan f) ≡ file_at start (name_of plan f)
      none false e gone = none_is (file_at once.files (name_of plan f)) gone ∙ sym (none_is (file_at start (name_of plan f)) e)
      none true e gone = absurd (false≢true (sym gone ∙ left.kept f fetch e))

      at_end : (b : Bool) → is_some (file_at once.files (name_of plan f)) ≡ b
          → option_or (file_at once.files (name_of plan f)) (remote_bytes remote (name_of plan f)) ≡ available plan first f
      at_end true e = option_or_some (file_at once.files (name_of plan f)) (remote_bytes remote (name_of plan f)) e ∙ left.bytes f fetch e
      at_end false e = ap (λ x. option_or x (remote_bytes remote (name_of plan f))) (none (is_some (file_at start (name_of plan f))) refl e)

      by : (file_at mid (name_of plan f) ≡ file_at start (name_of plan f)) ⊎ (file_at mid (name_of plan f) ≡ file_at once.files (name_of plan f))
          → available plan again f ≡ available plan first f
      by (inl e) = ap (λ x. option_or x (remote_bytes remote (name_of plan f))) e
      by (inr e) = ap (λ x. option_or x (remote_bytes remote (name_of plan f))) e ∙ at_end (is_some (file_at once.files (name_of plan f))) refl

  same : one_thread plan again ≡ once
  same = again_same plan start mid remote said sound between

  -- so each goal that is reached is asked the same
  asked_again : (number goal : ℕ) (m : PlanModule) (call : GoalCall) (e : Ending)
      → slice_get plan.modules number ≡ Some m → state_at once number ≡ state.Ended e → reaches e goal ≡ true
      → request_in plan first number m goal call ≡ request_in plan again number m goal call
  asked_again number goal m call e at ends reached =
      let judged = hand_judged plan first fit_again.apart fit_again.low fit_again.backed number m at tt in
      let had : missing_of plan first m.fetch ≡ None = reached_had plan first (state_at once) (outputs_at once) number goal m (ap (λ (v : Verdict). reaches_in v.state goal) (sym judged) ∙ ap (λ s. reaches_in s goal) ends ∙ reached) in
      let none : missing_of plan again m.fetch ≡ None = find_same (λ f. not (is_some (available plan again f))) (λ f. not (is_some (available plan first f))) m.fetch (λ f l. ap (λ o. not (is_some o)) (have_same f (number, m, at, l))) ∙ had in
      asked_so plan again fit_again number m at goal call (fetched plan remote m.fetch (before plan first number).files).files (before plan first number).outputs (slots_before m.budget (said number) goal m.goals) none
      (λ f l. file_before plan first fit_again number m at had f l ∙ sym (have_same f (number, m, at, l)))
      (λ u l. sym (kept_before plan first fit_again number m at u (fit_again.low number u m at l)) ∙ ap (λ (p : Progress). outputs_at p u) (sym same))
      refl

  pub again_law : (test : Test) → AreGates plan first test → AreGates plan again test
  again_law test are number goal m call e at there ends reached =
      let ends' : state_at once number ≡ state.Ended e = ap (λ (p : Progress). state_at p number) (sym same) ∙ ends in
      subst (λ r. test r (said number goal) ≡ true) (asked_again number goal m call e at ends' reached) (are number goal m call e at there ends' reached)
