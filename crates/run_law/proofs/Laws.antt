-- The laws of runs.
use Rattle.std.proofs.Common.{List, None, Option, Some, ℕ, [], ap, arith, false, get_or, inl, inr, is_some, length, refl, slice_get, subst, suc, sym, true, unwrap_or, zero, ◌++◌, ◌<◌, ◌∙◌, ◌∷◌, ◌≡◌, ◌≤◌, ◌⊎◌}
use Rattle.std.specs.Option.{option_map_or}
use Rattle.std.proofs.lemmas.Bool.{false≢true}
use Rattle.std.proofs.lemmas.List.{ext_get_or, get_or-map, get_or_append_left, get_or_push}
use Rattle.mvn_shared.specs.Files.{Files}
use Rattle.build_core.specs.declared.event.Answered.{Answered}
use Rattle.build_core.specs.declared.ending.Ending.{Ending}
use Rattle.build_core.specs.declared.ending.Ending.TheVariants as ending
use Rattle.scripts.specs.declared.outline.ModuleOutline.{ModuleOutline}
use Rattle.goal_types.specs.declared.goal.OwnBytes.{OwnBytes}
use Rattle.build_core.specs.declared.plan.Plan.{Plan}
use Rattle.build_core.specs.declared.plan.PlanModule.{PlanModule}
use Rattle.event_core.specs.declared.module_steps.Progress.{Progress}
use Rattle.event_core.specs.declared.module_steps.Progress.TheVariants.{Waiting, Running, Skipped, Ended}
use Rattle.event_core.specs.declared.entry.RunEntry.{RunEntry}
use Rattle.build_core.specs.declared.ending.State.{State}
use Rattle.build_core.specs.declared.ending.State.TheVariants as state
use Rattle.run_law.specs.Closed.{AreJudged, outputs_at, state_at}
use Rattle.run_law.specs.Given.{Answers, Extends, Given, IsBetween, IsFitting, IsUntouched, IsWhole, is_fault, is_kept, sequential, outputs_after, reaches, state_after, states_after, supply_by, untouched}
use Rattle.run_law.proofs.Invariants.{is_quiet_end, outs}
use Rattle.build_core.specs.Locks.{below}
use Rattle.build_core.specs.OneThread.{Supply, beginning, one_thread}
use Rattle.scripts.specs.Outlines.{is_listed, module_outline, outline_of}
use Rattle.event_core.specs.Runs.{IsComplete, answers_in, contents, outputs_from, outputs_in, standing_of_run}
use Rattle.event_core.specs.SoundPlans.{IsSoundPlan}
use Rattle.event_core.specs.HowFar.{first_lost, progress_of}
use Rattle.run_law.proofs.Betweens.{ended_alike, lies}
use Rattle.run_law.proofs.JudgedRuns.{IsFitPlan, behind_all, core_ends, isolation, run_judged}
use Rattle.run_law.proofs.Contents.{core, sound_owns}
use Rattle.run_law.proofs.Fold.{IsSoFar, fold_judged, hand_judged, in_list}
use Rattle.run_law.proofs.Kept.{outputs_are}
use Rattle.scripts.proofs.ScriptPlaces.{length_below}
use Rattle.run_law.proofs.Reruns.{ends_again, files_again}
use Rattle.run_law.proofs.Sounds.{sound_fit}
use Rattle.run_law.proofs.Stored.{get_in, get_map, length_map}
use Rattle.run_law.proofs.Telling.{all_told, fits_all, told}
use Rattle.scripts.specs.Bounds.{most_events}
use Rattle.run_law.proofs.AllAnswered.{all_answered_in}
use Rattle.run_law.proofs.Once.{judged_once}
use Rattle.run_law.proofs.Lengths.{all_fit}

-- ---- lists by places

-- the numbers below one, by place
nth_below : (n i : ℕ) → i < n → get_or (below n) i 0 ≡ i
nth_below zero i low = absurd (omega (arith, low))
nth_below (suc n) i low = by (nth_below n i) (below_or i n (omega (arith, low)))
  where
    below_or : (i n : ℕ) → i < suc n → (i < n) ⊎ (i ≡ n)
    below_or zero zero low = inr refl
    below_or zero (suc n) low = inl (omega arith)
    below_or (suc i) zero low = absurd (omega (arith, low))
    below_or (suc i) (suc n) low = up (below_or i n (omega (arith, low)))
      where
        up : (i < n) ⊎ (i ≡ n) → (suc i < suc n) ⊎ (suc i ≡ suc n)
        up (inl a) = inl (omega (arith, a))
        up (inr b) = inr (ap suc b)

    by : (i < n → get_or (below n) i 0 ≡ i) → (i < n) ⊎ (i ≡ n) → get_or (below n ++ n ∷ []) i 0 ≡ i
    by before (inl less) = get_or_append_left (below n) (n ∷ []) 0 i (omega (arith, less, length_below n)) ∙ before less
    by before (inr same) = get_or_push (below n) n 0 i (length_below n ∙ sym same) ∙ sym same

module _ (plan : Plan) (supply : Supply) (fit : IsFitPlan plan) where
  -- what holds behind all modules of the sequential build
  hand_far : IsSoFar plan supply fit.apart fit.low fit.backed plan.modules (one_thread plan supply)
  hand_far = fold_judged plan supply fit.apart fit.low fit.backed [] plan.modules (beginning supply) refl (record { states = refl; outputs = refl; answers = λ f fetch. refl; judged = λ k n here less. absurd (omega (arith, less)) })

-- there is a state for each module
states_long : (plan : Plan) (run : List RunEntry) → length (states_after plan run) ≡ length plan.modules
states_long plan run = length_map (state_after plan run) (below (length plan.modules)) ∙ length_below (length plan.modules)

-- and outputs
outputs_long : (kept : List Answered) (number : ℕ) (modules : List PlanModule) → length (outputs_from kept number modules) ≡ length modules
outputs_long kept number [] = refl
outputs_long kept number (m ∷ modules) = ap suc (outputs_long kept (suc number) modules)

-- what stands at each place makes the lists
states_all : (plan : Plan) (run : List RunEntry) (states : List State) → length states ≡ length plan.modules → ((number : ℕ) (m : PlanModule) → slice_get plan.modules number ≡ Some m → state_after plan run number ≡ get_or states number state.Waiting) → states_after plan run ≡ states
states_all plan run states long each = ext_get_or state.Waiting (states_after plan run) states (states_long plan run ∙ sym long) at
  where
    at : (i : ℕ) → i < length (states_after plan run) → get_or (states_after plan run) i state.Waiting ≡ get_or states i state.Waiting
    at i low =
        let inside : i < length plan.modules = omega (arith, low, states_long plan run) in
        let m = get_in plan.modules i inside in
        get_or-map (state_after plan run) (below (length plan.modules)) i 0 state.Waiting (omega (arith, inside, length_below (length plan.modules)))
        ∙ ap (state_after plan run) (nth_below (length plan.modules) i inside) ∙ each i m.0 m.1

-- the same of outputs
outputs_all : (plan : Plan) (run : List RunEntry) (outputs : List (List OwnBytes)) → length outputs ≡ length plan.modules → ((number : ℕ) (m : PlanModule) → slice_get plan.modules number ≡ Some m → outs plan (answers_in plan run) number ≡ get_or outputs number []) → outputs_in plan run ≡ outputs
outputs_all plan run outputs long each = ext_get_or [] (outputs_in plan run) outputs (outputs_long (answers_in plan run) 0 plan.modules ∙ sym long) at
  where
    at : (i : ℕ) → i < length (outputs_in plan run) → get_or (outputs_in plan run) i [] ≡ get_or outputs i []
    at i low =
        let m = get_in plan.modules i (omega (arith, low, outputs_long (answers_in plan run) 0 plan.modules)) in
        outputs_are plan run i ∙ each i m.0 m.1

-- ---- the closed form

-- a module that stands as one that ended has ended
ended_state : (plan : Plan) (run : List RunEntry) (number : ℕ) (e : Ending) → state_after plan run number ≡ state.Ended e → progress_of (standing_of_run plan run).progress number ≡ Ended e
ended_state plan run number e is = by (progress_of (standing_of_run plan run).progress number) refl
  where
    ended : State → Option Ending
    ended (state.Ended x) = Some x
    ended other = None

    none : (x : Ending) → ◌≡◌ {A = Option Ending} None (Some x) → ⊥
    none x e = false≢true (ap is_some e)

    by : (p : Progress) → progress_of (standing_of_run plan run).progress number ≡ p → progress_of (standing_of_run plan run).progress number ≡ Ended e
    by Waiting at = absurd (none e (sym (ap ended stands) ∙ ap ended is))
      where
        stands : state_after plan run number ≡ state.Waiting
        stands = rw at refl
    by (Running w) at = absurd (none e (sym (ap ended stands) ∙ ap ended is))
      where
        stands : state_after plan run number ≡ state.Running w
        stands = rw at refl
    by Skipped at = absurd (none e (sym (ap ended stands) ∙ ap ended is))
      where
        stands : state_after plan run number ≡ state.Skipped (unwrap_or (first_lost (outline_of plan) (standing_of_run plan run).progress number) 0)
        stands = rw at refl
    by (Ended x) at = at ∙ ap (λ o. Ended (unwrap_or o ending.Memory)) (sym (ap ended stands) ∙ ap ended is)
      where
        stands : state_after plan run number ≡ state.Ended x
        stands = rw at refl

-- the sequential build is judged
pub hand_is_judged : (plan : Plan) (supply : Supply) → IsSoundPlan plan → AreJudged plan supply (λ number. Unit {0}) (state_at (one_thread plan supply)) (outputs_at (one_thread plan supply))
hand_is_judged plan supply sound = let fit = sound_fit plan sound in hand_judged plan supply fit.apart fit.low fit.backed

-- what is judged stands in one way
pub judged_alike : (plan : Plan) (supply : Supply) → IsSoundPlan plan → (states states' : ℕ → State) (outputs outputs' : ℕ → List OwnBytes) → AreJudged plan supply (λ number. Unit {0}) states outputs → AreJudged plan supply (λ number. Unit {0}) states' outputs'
    → (number : ℕ) → number < length plan.modules → (states number ≡ states' number) × (outputs number ≡ outputs' number)
judged_alike plan supply sound states states' outputs outputs' one two number low =
    let fit = sound_fit plan sound in
    let m = get_in plan.modules number low in
    judged_once plan supply (λ number. Unit {0}) states states' outputs outputs' (λ k u n here l. (fit.low k u n here l, λ any. tt))
    (λ k u n here less. get_in plan.modules u (let inside = in_list plan.modules k n here in omega (arith, less, inside))) fit.backed one two number m.0 m.1 tt

-- ---- run confluence

module _ (g : Given) (run : List RunEntry) (said : Answers) (whole : IsWhole g run) (extends : Extends (answers_in g.plan run) said) where
  -- the plan is as the law asks
  fit : IsFitPlan g.plan
  fit = sound_fit g.plan whole.fitting.sound

  -- each module ends and keeps as in the sequential build
  ends : (number : ℕ) (m : PlanModule) → slice_get g.plan.modules number ≡ Some m → (state_after g.plan run number ≡ state_at (sequential g said) number) × (outs g.plan (answers_in g.plan run) number ≡ outputs_at (sequential g said) number)
  ends = core_ends g.plan g.start g.remote fit whole.fitting.present (told g) (all_told g whole.fitting.tell) run whole.fitting.follows (fits_all g run whole.fitting) whole.complete whole.quiet said extends

  -- each goal that the sequential build comes to is answered in the run
  pub answered : (number goal : ℕ) (m : PlanModule) (e : Ending) → slice_get g.plan.modules number ≡ Some m → state_at (sequential g said) number ≡ state.Ended e → goal < length m.goals → reaches e goal ≡ true → is_kept (answers_in g.plan run) number goal ≡ true
  answered number goal m e at is less reached =
      all_answered_in g.plan g.start (told g) run whole.fitting.follows (fits_all g run whole.fitting) number goal m e at (ended_state g.plan run number e ((ends number m at).0 ∙ is)) less reached

  -- so all states are the same
  pub same_states : states_after g.plan run ≡ (sequential g said).states
  same_states = states_all g.plan run (sequential g said).states (hand_far g.plan (supply_by g.start g.remote said) fit).states (λ number m at. (ends number m at).0)

  -- and all outputs
  pub same_outputs : outputs_in g.plan run ≡ (sequential g said).outputs
  same_outputs = outputs_all g.plan run (sequential g said).outputs (hand_far g.plan (supply_by g.start g.remote said) fit).outputs (λ number m at. (ends number m at).1)

  -- and all files
  pub same_files : contents g.plan g.start run ≡ (sequential g said).files
  same_files = core g.plan g.start g.remote fit whole.fitting.present (sound_owns g.plan whole.fitting.sound) (told g) (all_told g whole.fitting.tell) run whole.fitting.follows (fits_all g run whole.fitting) whole.complete whole.quiet said extends

-- ---- isolation

-- an ending that is no fault is quiet
quiet_of : (e : Ending) → is_fault (state.Ended e) ≡ false → is_quiet_end e ≡ true
quiet_of ending.Built is = refl
quiet_of ending.NoArtifact is = refl
quiet_of ending.ClasspathTooLarge is = refl
quiet_of (ending.Goal i) is = refl
quiet_of (ending.Missing f) is = refl
quiet_of (ending.OutputTooLarge i) is = refl
quiet_of (ending.Fault d) is = absurd (false≢true (sym is))
quiet_of ending.Memory is = absurd (false≢true (sym is))

-- a module that has ended stands so
ended_is : (plan : Plan) (run : List RunEntry) (number : ℕ) (e : Ending) → progress_of (standing_of_run plan run).progress number ≡ Ended e → state_after plan run number ≡ state.Ended e
ended_is plan run number e is = rw is refl

-- an untouched module ended quietly
untouched_quiet : (plan : Plan) (run : List RunEntry) {number : ℕ} → IsUntouched plan run number → (e : Ending) → progress_of (standing_of_run plan run).progress number ≡ Ended e → is_quiet_end e ≡ true
untouched_quiet plan run (untouched number not ups) e is = quiet_of e (ap is_fault (sym (ended_is plan run number e is)) ∙ not)

-- its upstreams are untouched
untouched_up : (plan : Plan) (run : List RunEntry) {number : ℕ} (u : ℕ) (m : PlanModule) → slice_get plan.modules number ≡ Some m → is_listed u m.upstream ≡ true → IsUntouched plan run number → IsUntouched plan run u
untouched_up plan run u m at l (untouched number not ups) =
    ups u (ap (λ found. is_listed u (option_map_or (λ (x : ModuleOutline). x.upstream) found [])) (get_map module_outline plan.modules number m at) ∙ l)

module _ (g : Given) (run : List RunEntry) (said : Answers) (fitting : IsFitting g run) (extends : Extends (answers_in g.plan run) said) where
  -- so it ends and keeps as in the sequential build
  untouched_ends : IsComplete g.plan run → (number : ℕ) (m : PlanModule) → slice_get g.plan.modules number ≡ Some m → IsUntouched g.plan run number
      → (state_after g.plan run number ≡ state_at (sequential g said) number) × (outs g.plan (answers_in g.plan run) number ≡ outputs_at (sequential g said) number)
  untouched_ends complete = isolation g.plan g.start g.remote (sound_fit g.plan fitting.sound) fitting.present (told g) (all_told g fitting.tell) (IsUntouched g.plan run) run fitting.follows (fits_all g run fitting) complete said extends
      (λ number is. untouched_quiet g.plan run is) (λ number u m at l. untouched_up g.plan run u m at l)

  -- so it stands as in the sequential build
  pub untouched_state : IsComplete g.plan run → (number : ℕ) → number < length g.plan.modules → IsUntouched g.plan run number → state_after g.plan run number ≡ state_at (sequential g said) number
  untouched_state complete number low is = let m = get_in g.plan.modules number low in (untouched_ends complete number m.0 m.1 is).0

  -- and keeps the same
  pub untouched_outputs : IsComplete g.plan run → (number : ℕ) → number < length g.plan.modules → IsUntouched g.plan run number → outputs_after g.plan run number ≡ outputs_at (sequential g said) number
  untouched_outputs complete number low is = let m = get_in g.plan.modules number low in outputs_are g.plan run number ∙ (untouched_ends complete number m.0 m.1 is).1

  -- what ended otherwise than by a fault is judged
  pub run_is_judged : IsComplete g.plan run → AreJudged g.plan (supply_by g.start g.remote said) (λ number. is_fault (state_after g.plan run number) ≡ false) (state_after g.plan run) (outputs_after g.plan run)
  run_is_judged complete = subst (AreJudged g.plan (supply_by g.start g.remote said) (λ number. is_fault (state_after g.plan run number) ≡ false) (state_after g.plan run)) (λ i u. sym (outputs_are g.plan run u) i) judged
    where
      judged : AreJudged g.plan (supply_by g.start g.remote said) (λ number. is_fault (state_after g.plan run number) ≡ false) (state_after g.plan run) (outs g.plan (answers_in g.plan run))
      judged number m at not =
          let fit = sound_fit g.plan fitting.sound in
          run_judged g.plan g.start g.remote fit fitting.present (told g) (all_told g fitting.tell) run
          (behind_all g.plan g.start g.remote fit fitting.present (told g) (all_told g fitting.tell) run fitting.follows (fits_all g run fitting)) complete said extends
          (all_answered_in g.plan g.start (told g) run fitting.follows (fits_all g run fitting)) number m at (λ e is. quiet_of e (ap is_fault (sym (ended_is g.plan run number e is)) ∙ not))

  -- what has ended but not by a fault, in any fitting run, ended as in the sequential build
  ended_ends : (number : ℕ) (e : Ending) → number < length g.plan.modules → state_after g.plan run number ≡ state.Ended e → is_fault (state.Ended e) ≡ false
      → (state_after g.plan run number ≡ state_at (sequential g said) number) × (outs g.plan (answers_in g.plan run) number ≡ outputs_at (sequential g said) number)
  ended_ends number e low is not =
      let m = get_in g.plan.modules number low in
      ended_alike g.plan g.start g.remote (sound_fit g.plan fitting.sound) fitting.present (sound_owns g.plan fitting.sound) (told g) (all_told g fitting.tell) run fitting.follows (fits_all g run fitting) said extends
      number m.0 e m.1 (ended_state g.plan run number e is) (quiet_of e not)

  -- so it stands so in the sequential build
  pub ended_so : (number : ℕ) (e : Ending) → number < length g.plan.modules → state_after g.plan run number ≡ state.Ended e → is_fault (state.Ended e) ≡ false → state_at (sequential g said) number ≡ state.Ended e
  ended_so number e low is not = sym (ended_ends number e low is not).0 ∙ is

  -- and keeps the same
  pub ended_keeps : (number : ℕ) (e : Ending) → number < length g.plan.modules → state_after g.plan run number ≡ state.Ended e → is_fault (state.Ended e) ≡ false → outputs_after g.plan run number ≡ outputs_at (sequential g said) number
  ended_keeps number e low is not = outputs_are g.plan run number ∙ (ended_ends number e low is not).1

  -- the files, also of runs that aren't complete
  pub files_between : IsBetween g.start (sequential g said).files (contents g.plan g.start run)
  files_between = lies g.plan g.start g.remote (sound_fit g.plan fitting.sound) fitting.present (sound_owns g.plan fitting.sound) (told g) (all_told g fitting.tell) run fitting.follows (fits_all g run fitting) said extends

-- ---- again over one plan

module _ (plan : Plan) (start mid remote : Files) (said : Answers) (sound : IsSoundPlan plan) (between : IsBetween start (one_thread plan (supply_by start remote said)).files mid) where
  abbrev first : Supply
  first = supply_by start remote said

  abbrev again : Supply
  again = supply_by mid remote said

  -- the plan is as the law asks
  fit_again : IsFitPlan plan
  fit_again = sound_fit plan sound

  -- each module ends and keeps the same again
  same_again : (number : ℕ) (m : PlanModule) → slice_get plan.modules number ≡ Some m → (state_at (one_thread plan again) number ≡ state_at (one_thread plan first) number) × (outputs_at (one_thread plan again) number ≡ outputs_at (one_thread plan first) number)
  same_again = ends_again plan fit_again (sound_owns plan sound) start mid remote said between

  -- so all states are the same
  states_again : (one_thread plan again).states ≡ (one_thread plan first).states
  states_again = ext_get_or state.Waiting (one_thread plan again).states (one_thread plan first).states (long again ∙ sym (long first))
      (λ i low. let long' = long again in let m = get_in plan.modules i (omega (arith, low, long')) in (same_again i m.0 m.1).0)
    where
      long : (supply : Supply) → length (one_thread plan supply).states ≡ length plan.modules
      long supply = (hand_far plan supply fit_again).states

  -- and all outputs
  outputs_again : (one_thread plan again).outputs ≡ (one_thread plan first).outputs
  outputs_again = ext_get_or [] (one_thread plan again).outputs (one_thread plan first).outputs (long again ∙ sym (long first))
      (λ i low. let long' = long again in let m = get_in plan.modules i (omega (arith, low, long')) in (same_again i m.0 m.1).1)
    where
      long : (supply : Supply) → length (one_thread plan supply).outputs ≡ length plan.modules
      long supply = (hand_far plan supply fit_again).outputs

  -- and with the files all is
  pub again_same : one_thread plan again ≡ one_thread plan first
  again_same = λ i. record { files = files_again plan fit_again (sound_owns plan sound) start mid remote said between i; states = states_again i; outputs = outputs_again i }

-- ---- how long runs are

-- a sound plan has room for all events
pub room : (plan : Plan) → IsSoundPlan plan → most_events (outline_of plan) ≤ plan.events
room plan sound = let fit = all_fit plan.modules sound.modules in let room = sound.events in omega (arith, fit, room)
