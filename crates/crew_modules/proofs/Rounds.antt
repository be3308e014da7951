-- A worker that asks its module's goals: what it knows between two of them, and how it stops.
use Rattle.std.proofs.Common.{◌≡◌, inl, inr, ℕ, ◌+◌, ◌<◌, Bool, true, false, nat_eq, nat_lt, List, [], ◌∷◌, ◌++◌, length, slice_get, Option, Some, None, IfSome, option_and_then, option_map, refl, arith, sym, ap, subst, ◌∙◌}
use Rattle.std.specs.Option.{option_map_or}
use Rattle.std.proofs.lemmas.Bool.Decides.{nat_tests}
use Rattle.std.proofs.lemmas.List.{append-nil, append_assoc}
use Rattle.mvn_shared.specs.Files.{Files}
use Rattle.mvn_outside.specs.Shelf.{files_now}
use Rattle.goal_types.specs.Goals.{HasOwnSlots}
use Rattle.goal_types.specs.declared.goal.GoalAnswer.{GoalAnswer}
use Rattle.goal_types.specs.declared.goal.GoalCall.{GoalCall}
use Rattle.goal_types.specs.declared.goal.GoalRequest.{GoalRequest}
use Rattle.goal_types.specs.declared.goal.OwnBytes.{OwnBytes}
use Rattle.goal_types.specs.declared.goal.PathEntry.{PathEntry}
use Rattle.goal_types.specs.declared.goal.Slot.TheVariants.{Nowhere}
use Rattle.build_core.specs.Slots.{GoalsEnd, all_answered, kept_of, one_goal}
use Rattle.build_core.specs.declared.ending.Device.TheVariants as device
use Rattle.build_core.specs.declared.ending.Ending.{Ending}
use Rattle.build_core.specs.declared.ending.Ending.TheVariants as ending
use Rattle.build_core.specs.declared.event.Event.TheVariants as event
use Rattle.build_core.specs.declared.plan.PlanModule.{PlanModule}
use Rattle.event_core.specs.declared.entry.Carried.{Carried}
use Rattle.event_core.specs.declared.entry.Carried.TheVariants as carried
use Rattle.event_core.specs.declared.entry.RunEntry.{RunEntry}
use Rattle.scripts.specs.declared.outline.ModuleOutline.{ModuleOutline}
use Rattle.scripts.specs.declared.script_place.ScriptPlace.TheVariants as place
use Rattle.event_core.specs.Enabled.{ending_in_range, may_end_so}
use Rattle.scripts.specs.Outlines.{module_outline}
use Rattle.event_core.specs.Runs.{IsRunOf, standing_of_run}
use Rattle.scripts.specs.ScriptPlaces.{rest_of}
use Rattle.scripts.specs.Scripts.{Script}
use Rattle.scripts.specs.Scripts as scripts
use Rattle.event_core.specs.SoundPlans.{is_call}
use Rattle.event_core.specs.Standing.{Course, course_of, goals_of, held_by, module_of, on_course}
use Rattle.event_core.specs.Worlds.{FitsAnswer, FitsEnd, HandTold, IsWithin, is_good, stood}
use Rattle.run_law.proofs.Stored.{get_map}
use Rattle.run_law.specs.Others.{HasAll}
use Rattle.atomic_table.specs.Seated.{TableId}
use Rattle.board.specs.Builds.{answer_kept}
use Rattle.board.specs.declared.kept.Opened.{Opened}
use Rattle.run_law.specs.Gathered.{needed_of}
use Rattle.run_law.proofs.Answering.{begun}
use Rattle.crew_turns.specs.Asking.{IsRequestOf, asked}
use Rattle.crew_turns.specs.Seen.{Follows, IsOf, KeepsFit, Steps, Told, course_by, names_by, seen_by, start_by, view}
use Rattle.crew_turns.specs.Tasks.{IsTask, ModuleTask, StandsAt, plan_outline, stood_by, unit_outline}
use Rattle.crew_turns.specs.Asked.{IsRequest, SettlesAnswer, goals_with, slot_at}
use Rattle.crew_turns.specs.Endings.{stops_by}
use Rattle.crew_turns.specs.Hands.{Test, told_by}
use Rattle.crew_turns.specs.Paths.{IsPath}
use Rattle.crew_turns.specs.Stages.{HasAnswered}
use Rattle.crew_turns.specs.Stops.{MayStopAlways, freed_course}
use Rattle.board.proofs.KeptOutputs.{still_kept}
use Rattle.crew_modules.specs.Answering.{Goes, HasAllAnswered, HasStopped, IsAnswering, IsDone, IsGateEnd, IsLeft}
use Rattle.crew_modules.proofs.Answered.{all_now, course_now, gates, held_now, paths_now, within_now}
use Rattle.crew_modules.proofs.Outcomes.{EndsSo, at_place, itself, no_fault, settled}
use Rattle.crew_modules.proofs.GoalPlaces.{all_to_come}

-- a low number passes the test
is_low : (a b : ℕ) → a < b → nat_lt a b ≡ true
is_low a b low = grind (arith, nat_tests, low)

-- ---- the way

-- where nothing happens, nothing changes
pub stays : (t : ModuleTask) (lock : TableId) (gate : Option Test) (pass : Told) → IsOf t.plan lock t.worker pass → Goes t gate pass pass
stays t lock gate pass of = record {
  follows = record { lock = refl; quiet = of.quiet; number = refl; reach = refl; weight = refl; workers = refl; fixed = refl; log = ([], sym (append-nil (seen_by pass))) };
  fits = λ remote area fits. fits;
}

-- one way behind another
pub goes_on : (t : ModuleTask) (gate : Option Test) (before mid pass : Told) → Goes t gate before mid → Goes t gate mid pass → Goes t gate before pass
goes_on t gate before mid pass a b = record {
  follows = record {
    lock = b.follows.lock ∙ a.follows.lock;
    quiet = b.follows.quiet;
    number = b.follows.number ∙ a.follows.number;
    reach = b.follows.reach ∙ a.follows.reach;
    weight = b.follows.weight ∙ a.follows.weight;
    workers = b.follows.workers ∙ a.follows.workers;
    fixed = b.follows.fixed ∙ a.follows.fixed;
    log = (a.follows.log.0 ++ b.follows.log.0, b.follows.log.1 ∙ ap (λ l. l ++ b.follows.log.0) a.follows.log.1 ∙ append_assoc (seen_by before) a.follows.log.0 b.follows.log.0);
  };
  fits = λ remote area fits. b.fits remote area (a.fits remote area fits);
}

-- with a gate that answers as it did
pub goes_further : (t : ModuleTask) (gate now : Option Test) (before mid pass : Told) → now ≡ gate → Goes t gate before mid → Goes t now mid pass → Goes t gate before pass
goes_further t gate now before mid pass same a b = goes_on t gate before mid pass a (subst (λ g. Goes t g mid pass) same b)

-- ---- how it stops

module _ (t : ModuleTask) (lock : TableId) (pass : Told) (script : Script) (last : Option ℕ) (on : course_by t.plan t.worker pass ≡ on_course t.number script last) (none : names_by t.plan t.worker pass ≡ []) where
  -- a worker that holds no name may end as its place says
  pub may_stop : (e : Ending) → may_end_so (plan_outline t) (on_course t.number script last) e ≡ true → ending_in_range (plan_outline t) (on_course t.number script last) e ≡ true
      → ((told : HandTold) → FitsEnd (stood_by t pass) told e) → MayStopAlways t e pass
  may_stop e may range fits = λ told. record {
    may = record {
      whose = ap module_of on;
      ends = λ there.
          subst (λ ns. may_end_so (plan_outline t) (freed_course (plan_outline t) there ns (course_by t.plan t.worker pass)) e ≡ true) (sym none)
          (subst (λ c. may_end_so (plan_outline t) c e ≡ true) (sym on) may);
      range = subst (λ c. ending_in_range (plan_outline t) c e ≡ true) (sym on) range;
    };
    fits = fits told;
  }

  -- so it may for want of memory, and by a fault of the gate
  pub by_memory : IsOf t.plan lock t.worker pass → HasStopped t lock ending.Memory pass
  by_memory of = record { of = of; held = none; may = may_stop ending.Memory refl refl (λ told. tt); by_goal = refl }

  by_gate : IsOf t.plan lock t.worker pass → HasStopped t lock (ending.Fault device.Gate) pass
  by_gate of = record { of = of; held = none; may = may_stop (ending.Fault device.Gate) refl refl (λ told. tt); by_goal = refl }

  pub no_answer : (e : Ending) → IsOf t.plan lock t.worker pass → IsGateEnd e → HasStopped t lock e pass
  no_answer e of (inl is) = subst (λ x. HasStopped t lock x pass) (sym is) (by_gate of)
  no_answer e of (inr is) = subst (λ x. HasStopped t lock x pass) (sym is) (by_memory of)

-- the place of a module's goals
abbrev place_of : ModuleTask → (goal : ℕ) → Script
place_of t goal = scripts.settled [] true (rest_of (unit_outline t) (place.Answering goal))

-- ---- at first

module _ (t : ModuleTask) (lock : TableId) (paths : List PathEntry) (pass : Told) (is : IsTask t) (of : IsOf t.plan lock t.worker pass) (good : HasAnswered t 0 None pass) where
  pub first_goals : (stood_by t pass).goals ≡ all_answered []
  first_goals =
      begun t.plan (seen_by pass) t.worker t.number t.unit (place_of t 0)
      (record { run = of.run; unit = is; last = None; course = good.at.course }) (all_to_come (unit_outline t))

  -- no goal is answered, and no output is kept
  pub begins : (request : GoalRequest) → IsPath t paths pass → IsRequestOf t.unit [] request → IsAnswering t lock paths 0 request pass
  begins request path first = record {
    of = of;
    last = None;
    good = good;
    path = path;
    asks = record {
      is = record { unit = first.unit; sources = first.sources; own = first.own ∙ sym (ap kept_of first_goals) };
      slots = subst HasOwnSlots (sym first.own) refl;
    };
  }

  pub none_to_ask : t.unit.goals ≡ [] → HasAllAnswered t lock [] pass
  none_to_ask empty = record {
    of = of;
    last = None;
    good = subst (λ (n : ℕ). HasAnswered t n None pass) (sym (ap (λ (xs : List GoalCall). length xs) empty)) good;
    kept = sym (ap kept_of first_goals);
  }

  pub no_memory : HasStopped t lock ending.Memory pass
  no_memory = by_memory t lock pass (place_of t 0) None good.at.course good.at.held of

-- ---- between two goals

module _ (t : ModuleTask) (lock : TableId) (paths : List PathEntry) (goal : ℕ) (request : GoalRequest) (pass : Told) (stands : IsAnswering t lock paths goal request pass) where
  -- memory may run out
  pub memory_here : HasStopped t lock ending.Memory pass
  memory_here = by_memory t lock pass (place_of t goal) stands.last stands.good.at.course stands.good.at.held stands.of

  -- behind the last goal all are answered
  pub all_asked : goal ≡ length t.unit.goals → HasAllAnswered t lock request.own pass
  all_asked end = record { of = stands.of; last = stands.last; good = subst (λ n. HasAnswered t n stands.last pass) end stands.good; kept = stands.asks.is.own }

-- ---- a goal

module _ (t : ModuleTask) (lock : TableId) (paths : List PathEntry) (goal : ℕ) (request : GoalRequest) (before : Told) (is : IsTask t) (low : goal < length t.unit.goals)
    (stands : IsAnswering t lock paths goal request before) where
  -- nothing was kept
  pub unanswered : (e : Ending) → IsGateEnd e → HasStopped t lock e before
  unanswered e end = no_answer t lock before (place_of t goal) stands.last stands.good.at.course stands.good.at.held e stands.of end

  -- the answer fits
  pub answer_fits : (remote : Option Files) (area : Bool) (gate : Option Test) (call : GoalCall) (answer : GoalAnswer) → slice_get t.unit.goals goal ≡ Some call
      → IfSome gate (λ test. test (asked request call (needed_of call.need t.unit.entries paths)) answer ≡ true) → FitsAnswer (stood_by t before) (told_by remote area gate) goal (carried.Answered answer)
  answer_fits remote area gate call answer at told =
      (stands.good.within, stands.good.good, gates t.plan (seen_by before) t.number goal t.unit call request paths answer remote area gate (start_by before) at stands.asks.is stands.path told)

  -- the gate's answer to what was asked
  pub told_so : (gate : Option Test) (mid : GoalRequest) (u : PlanModule) (call : GoalCall) (answer : GoalAnswer) → u ≡ t.unit → mid ≡ asked request call (needed_of call.need u.entries paths)
      → IfSome gate (λ test. test mid answer ≡ true) → IfSome gate (λ test. test (asked request call (needed_of call.need t.unit.entries paths)) answer ≡ true)
  told_so gate mid u call answer same asks told = subst (λ r. IfSome gate (λ test. test r answer ≡ true)) (asks ∙ ap (λ (x : PlanModule). asked request call (needed_of call.need x.entries paths)) same) told

  module _ (pass : Told) (step : Steps t.plan lock t.worker (event.Answer t.worker goal) before pass) where
    abbrev seen : List RunEntry
    seen = seen_by before

    abbrev log : List RunEntry
    log = seen ++ step.others ++ (record { event = event.Answer t.worker goal; carried = step.what }) ∷ []

    run : IsRunOf t.plan log
    run = subst (IsRunOf t.plan) step.log step.of.run

    start_same : start_by pass ≡ start_by before
    start_same = ap (λ (fixed : Option Opened). option_and_then (λ (o : Opened). option_map files_now o.told) fixed) step.follows.fixed

    pub course_is : course_by t.plan t.worker pass ≡ on_course t.number (place_of t (goal + 1)) (Some goal)
    course_is =
        ap (λ l. course_of (standing_of_run t.plan l) t.worker) step.log
        ∙ course_now t.plan seen step.others t.worker t.number goal step.what t.unit stands.last stands.of.sound run step.apart is low stands.good.at.course stands.good.at.held

    pub held_is : names_by t.plan t.worker pass ≡ []
    held_is =
        ap (λ l. held_by (standing_of_run t.plan l) t.worker) step.log
        ∙ held_now t.plan seen step.others t.worker t.number goal step.what t.unit stands.last stands.of.sound run step.apart is low stands.good.at.course stands.good.at.held

    all_is : HasAll t.plan (seen_by pass) t.unit
    all_is =
        subst (λ l. HasAll t.plan l t.unit) (sym step.log)
        (all_now t.plan seen step.others t.worker t.number goal step.what t.unit stands.last stands.of.sound run step.apart is low stands.good.at.course stands.good.at.held)

    within_is : IsWithin (stood_by t pass)
    within_is =
        subst (λ s. IsWithin (stood t.plan s (seen_by pass) t.number t.unit)) (sym start_same)
        (subst (λ l. IsWithin (stood t.plan (start_by before) l t.number t.unit)) (sym step.log)
        (within_now t.plan seen step.others t.worker t.number goal step.what t.unit stands.last stands.of.sound run step.apart is low stands.good.at.course stands.good.at.held (start_by before) stands.good.all stands.good.within))

    path_is : IsPath t paths pass
    path_is =
        subst (λ s. Rattle.crew_modules.proofs.Answered.ArePathsIn t.plan s (seen_by pass) t.unit paths) (sym start_same)
        (subst (λ l. Rattle.crew_modules.proofs.Answered.ArePathsIn t.plan (start_by before) l t.unit paths) (sym step.log)
        (paths_now t.plan seen step.others t.worker t.number goal step.what t.unit stands.last stands.of.sound run step.apart is low stands.good.at.course stands.good.at.held (start_by before) stands.good.all paths stands.path))

    -- how many goals the module has
    many : goals_of (plan_outline t) t.number ≡ length t.unit.goals
    many = ap (λ x. option_map_or (λ (y : ModuleOutline). y.goals) x 0) (get_map module_outline t.plan.modules t.number t.unit is)

    in_range : nat_lt goal (goals_of (plan_outline t) t.number) ≡ true
    in_range = ap (nat_lt goal) many ∙ is_low goal (length t.unit.goals) low

    pub goes : (gate : Option Test) → ((remote : Option Files) (area : Bool) → KeepsFit t.plan t.worker (told_by remote area gate) before pass) → Goes t gate before pass
    goes gate fits = record { follows = step.follows; fits = fits }

    -- the last answer stopped it, or memory ran out, or the next goal is to be asked
    module _ (later : GoalRequest) (call : GoalCall) (answer : GoalAnswer) (at : slice_get t.unit.goals goal ≡ Some call)
        (goals : (stood_by t pass).goals ≡ one_goal t.unit.budget goal call.slot answer request.own all_answered)
        (unit_same : later.«module» ≡ request.«module») (sources_same : later.sources ≡ request.sources) where
      slots_now : one_goal t.unit.budget goal call.slot answer request.own all_answered ≡ all_answered later.own → HasOwnSlots later.own
      slots_now end =
          still_kept t.unit.budget goal call.slot answer request.own later.own
          (at_place is_call t.unit.goals goal call (stands.of.sound.modules t.number t.unit is).goals at) stands.asks.slots end

      next_goal : one_goal t.unit.budget goal call.slot answer request.own all_answered ≡ all_answered later.own → IsAnswering t lock paths (goal + 1) later pass
      next_goal end = record {
        of = step.of;
        last = Some goal;
        good = record {
          at = record { course = course_is; held = held_is };
          all = all_is;
          within = within_is;
          good = ap is_good (goals ∙ end);
        };
        path = path_is;
        asks = record {
          is = record { unit = unit_same ∙ stands.asks.is.unit; sources = sources_same ∙ stands.asks.is.sources; own = sym (ap kept_of (goals ∙ end)) };
          slots = slots_now end;
        };
      }

      pub left_by : (stop : Option Ending) → EndsSo goal (one_goal t.unit.budget goal call.slot answer request.own all_answered) later.own stop → IsLeft t lock paths (goal + 1) later stop pass
      left_by None end = next_goal end
      left_by (Some (ending.Goal i)) end =
          subst (λ n. HasStopped t lock (ending.Goal n) pass) (sym end.0) (record {
            of = step.of;
            held = held_is;
            may = may_stop t lock pass (place_of t (goal + 1)) (Some goal) course_is held_is (ending.Goal goal) (itself goal) in_range (λ told. ap (Rattle.event_core.specs.Worlds.has_failed_at goal) goals ∙ end.1);
            by_goal = refl;
          })
      left_by (Some (ending.OutputTooLarge i)) end =
          subst (λ n. HasStopped t lock (ending.OutputTooLarge n) pass) (sym end.0) (record {
            of = step.of;
            held = held_is;
            may = may_stop t lock pass (place_of t (goal + 1)) (Some goal) course_is held_is (ending.OutputTooLarge goal) (itself goal) in_range (λ told. ap (Rattle.event_core.specs.Worlds.is_too_large_at goal) goals ∙ end.1);
            by_goal = refl;
          })
      left_by (Some ending.Memory) end = by_memory t lock pass (place_of t (goal + 1)) (Some goal) course_is held_is step.of
      left_by (Some ending.Built) end = absurd end
      left_by (Some (ending.Missing file)) end = absurd end
      left_by (Some ending.ClasspathTooLarge) end = absurd end
      left_by (Some ending.NoArtifact) end = absurd end
      left_by (Some (ending.Fault d)) end = absurd end

    -- as its answer is settled
    module _ (mid : GoalRequest) (own : List OwnBytes) (call : GoalCall) (answer : GoalAnswer) (list : List PathEntry) (stop : Option Ending)
        (at : slice_get t.unit.goals goal ≡ Some call) (goals : (stood_by t pass).goals ≡ goals_with t before goal answer) (asks : mid ≡ asked request call list)
        (settles : SettlesAnswer goal call.slot (answer_kept goal (stood_by t pass).goals) answer mid.own own stop) where
      goals_are : (stood_by t pass).goals ≡ one_goal t.unit.budget goal call.slot answer request.own all_answered
      goals_are =
          goals
          ∙ ap (λ o. one_goal t.unit.budget goal (option_map_or (λ (c : GoalCall). c.slot) o Nowhere) answer (kept_of (stood_by t before).goals) all_answered) at
          ∙ ap (λ o. one_goal t.unit.budget goal call.slot answer o all_answered) (sym stands.asks.is.own)

      ends_so : EndsSo goal (one_goal t.unit.budget goal call.slot answer request.own all_answered) own stop
      ends_so =
          settled t.unit.budget goal call.slot request.own own (answer_kept goal (stood_by t pass).goals) answer stop (ap (answer_kept goal) goals_are)
          (subst (λ o. SettlesAnswer goal call.slot (answer_kept goal (stood_by t pass).goals) answer o own stop) (ap (λ (r : GoalRequest). r.own) asks) settles)

      pub left_of : IsLeft t lock paths (goal + 1) (record mid { own = own }) stop pass
      left_of = left_by (record mid { own = own }) call answer at goals_are (ap (λ (r : GoalRequest). r.«module») asks) (ap (λ (r : GoalRequest). r.sources) asks) stop ends_so

      pub gate_held : stops_by device.Gate stop ≡ false
      gate_held = no_fault goal (one_goal t.unit.budget goal call.slot answer request.own all_answered) own stop ends_so
