-- What a run that is finished answers and leaves.
use Rattle.std.proofs.Common.{◌≡◌, ◌≢◌, ◌⊎◌, inl, inr, ◌<◌, ◌≤◌, ◌+◌, ℕ, Bool, true, false, List, [], ◌∷◌, ◌++◌, map, length, filter, filter_map, get_or, Option, Some, None, Result, Ok, Err, IfOk, IfSome, OnOk, OnErr, refl, sym, ap, subst, ◌∙◌, arith}
use Rattle.std.specs.List.{list_all}
use Rattle.std.proofs.lemmas.Bool.{false≢true}
use Rattle.std.proofs.lemmas.Result.{IfOk-weaker}
use Rattle.mvn_shared.specs.Cause.{HasCause, HasRisen, RoseBy}
use Rattle.mvn_shared.specs.Files.{Files}
use Rattle.mvn_shared.specs.declared.memory.OutOfMemory.{OutOfMemory}
use Rattle.mvn_outside.specs.Faults.{device_failed}
use Rattle.mvn_outside.specs.Shelf.{IsSettled, MaySettle, files_now, settled_all}
use Rattle.mvn_outside.specs.declared.fault.DeviceFault.{DeviceFault}
use Rattle.mvn_outside.specs.declared.fault.DeviceFault.TheVariants as fault
use Rattle.mvn_outside.specs.declared.shelf.Published.{Published}
use Rattle.mvn_outside.specs.declared.shelf.ShelfTold.{ShelfTold}
use Rattle.goal_types.specs.declared.goal.GoalAnswer.{GoalAnswer}
use Rattle.build_core.specs.OneThread.{Progress, Supply, answer_at, one_thread}
use Rattle.build_core.specs.declared.ending.Device.{Device}
use Rattle.build_core.specs.declared.ending.Device.TheVariants as device
use Rattle.build_core.specs.declared.ending.State.{State}
use Rattle.build_core.specs.declared.event.Answered.{Answered}
use Rattle.build_core.specs.declared.event.Event.{Event}
use Rattle.build_core.specs.declared.plan.Plan.{Plan}
use Rattle.report.specs.Report.{report_text}
use Rattle.report.specs.declared.row.ReportRow.{ReportRow}
use Rattle.report.specs.Rows.{rows, states_status}
use Rattle.report.specs.declared.details.Details.{Details}
use Rattle.report.proofs.Rows.{rows_same}
use Rattle.event_core.specs.Runs.{IsQuiet, answers_in, contents, events_of}
use Rattle.event_core.specs.SoundPlans.{IsSoundPlan}
use Rattle.event_core.specs.declared.entry.RunEntry.{RunEntry}
use Rattle.board.specs.Logs.{publishes_in, shelf_endings, told_after}
use Rattle.board.specs.declared.board.Finished.{Finished}
use Rattle.run_law.specs.Given.{Extends, IsPresent, states_after}
use Rattle.run_law.proofs.Extending.{extends_itself}
use Rattle.run_law.proofs.Stored.{length_map}
use Rattle.crew.specs.Whole.{IsBuilt, IsWorkedBy}
use Rattle.crew_turns.specs.Hands.{HandState}
use Rattle.crew.specs.AsOne.{EndsAsOne, IsSupplyOf, are_calm}
use Rattle.crew.specs.CrewOutcomes.{AllTellFiles, IsCrewRun, hand_of}
use Rattle.crew.proofs.Counts.{calm}
use Rattle.crew.proofs.Names as names
use Rattle.crew.proofs.Sides.{as_one}
use Rattle.build_outcome.specs.Answering.{AnswersBuild, BuildsAsOne, IsAnswerOf, RanSo}
use Rattle.build_outcome.specs.Finished.{AreSwept, Finishes}
use Rattle.build_outcome.specs.Left.{AllStill, AreEmpty, IsCallRun, IsShelfCounted, Outside, SomeFailed, TellAsBefore, outside_by}
use Rattle.build_outcome.specs.Once.{PublishesOnce}
use Rattle.build_outcome.specs.Outcomes.{IsRunAnswer, is_clean, ran, run_outcome, run_report, run_status}
use Rattle.build_outcome.specs.Reports.{Reports}
use Rattle.build_outcome.specs.declared.build.Call.{Call}
use Rattle.build_outcome.specs.declared.outcome.Outcome.{Outcome}
use Rattle.build_outcome.proofs.Crew.{by_states, crew_run}
use Rattle.build_outcome.proofs.Endings.{answer_bound, calm_status, clean_answer, clean_both, low_clean, three_faulty}
use Rattle.build_outcome.proofs.Faulty.{failed_so, more_of, no_fault_still, quiet_endings}

rose_still : (n f0 f1 f2 : ℕ) → RoseBy n f0 f1 → f2 ≡ f1 → RoseBy (n + 0) f0 f2
rose_still n f0 f1 f2 r e = let low = r.no_fall in let high = r.rise in record { no_fall = omega (arith, low, e); rise = omega (arith, high, e) }

rose_more : (n f0 f1 f2 : ℕ) → RoseBy n f0 f1 → HasRisen f1 f2 → RoseBy (n + 1) f0 f2
rose_more n f0 f1 f2 r more =
    let low = r.no_fall in let high = r.rise in let least = more.no_fall in let rise = more.rise in
    record { no_fall = omega (arith, low, least); rise = omega (arith, high, least, rise) }

rose_by : (settled : Result (Unit {0}) DeviceFault) (n f0 f1 f2 : ℕ) → RoseBy n f0 f1 → HasCause f1 f2 (device_failed settled) → RoseBy (n + more_of settled) f0 f2
rose_by (Ok done) n f0 f1 f2 r cause = rose_still n f0 f1 f2 r cause
rose_by (Err fault.Failed) n f0 f1 f2 r cause = rose_more n f0 f1 f2 r cause
rose_by (Err fault.Memory) n f0 f1 f2 r cause = rose_still n f0 f1 f2 r cause

rose_told : (told : Option ShelfTold) (settled : Result (Unit {0}) DeviceFault) (n f0 f1 f2 : ℕ) → IfSome told (λ t. RoseBy n f0 f1) → HasCause f1 f2 (device_failed settled) → IfSome told (λ t. RoseBy (n + more_of settled) f0 f2)
rose_told None settled n f0 f1 f2 r cause = tt
rose_told (Some t) settled n f0 f1 f2 r cause = rose_by settled n f0 f1 f2 r cause

still_by : (settled : Result (Unit {0}) DeviceFault) (f1 f2 : ℕ) → more_of settled ≡ 0 → HasCause f1 f2 (device_failed settled) → f2 ≡ f1
still_by (Ok done) f1 f2 none cause = cause
still_by (Err fault.Failed) f1 f2 none cause = absurd (omega (arith, none))
still_by (Err fault.Memory) f1 f2 none cause = cause

-- behind any run, by which the count didn't fall
least_none : (f0 f1 f2 : ℕ) → f0 ≤ f1 → f2 ≡ f1 → RoseBy 0 f0 f2
least_none f0 f1 f2 low e = record { no_fall = omega (arith, low, e); rise = omega (arith, low, e) }

least_once : (f0 f1 f2 : ℕ) → f0 ≤ f1 → HasRisen f1 f2 → RoseBy 1 f0 f2
least_once f0 f1 f2 low risen = let least = risen.no_fall in let high = risen.rise in record { no_fall = omega (arith, low, least); rise = omega (arith, low, high) }

least_by : (settled : Result (Unit {0}) DeviceFault) (f0 f1 f2 : ℕ) → f0 ≤ f1 → HasCause f1 f2 (device_failed settled) → RoseBy (more_of settled) f0 f2
least_by (Ok done) f0 f1 f2 low cause = least_none f0 f1 f2 low cause
least_by (Err fault.Failed) f0 f1 f2 low cause = least_once f0 f1 f2 low cause
least_by (Err fault.Memory) f0 f1 f2 low cause = least_none f0 f1 f2 low cause

-- a run that is finished: it is the call's, what it published is settled or not, the answer is made of it, and the repository's faults are
-- counted
pub record IsEnd (plan : Plan) (details : List Details) (before now : Outside) (trace : List Event) (answers : List Answered) (outcome : Result Outcome OutOfMemory) (run : List RunEntry) (settled : Result (Unit {0}) DeviceFault) : Type 0 where
  of : IsCallRun plan before now trace answers run
  ok : OnOk settled (now.shelf ≡ settled_all (told_after plan run before.shelf))
  answer : IfOk outcome (IsRunAnswer plan details answers (states_after plan run) settled)
  counted : IsShelfCounted run (more_of settled) before now

module _ {S : Type 0} (told : S → Option ShelfTold) (faults : S → ℕ) (plan : Plan) (details : List Details) (opening : S) (run : List RunEntry) (left : Finished S) (call : Call S) (before now : List HandState)
    (built : IsBuilt told faults plan opening run left) (fin : Finishes told faults plan details left call) (crew : IsCrewRun plan (told opening) before now run) where
  abbrev first : Outside
  first = record { shelf = told opening; faults = faults opening; hands = before }

  abbrev last : Outside
  last = record { shelf = told call.devices; faults = faults call.devices; hands = now }

  same : (left.answers ≡ call.answers) × (left.states ≡ states_after plan run)
  same = (sym fin.kept, built.states)

  -- what is built and finished
  pub ended : IsEnd plan details first last call.trace call.answers call.outcome run fin.settled
  ended = record {
    of = record {
      crew = crew;
      events = fin.events ∙ built.trace;
      kept = fin.kept ∙ built.answers;
      published = subst (λ t. MaySettle t (told call.devices)) built.publishes fin.may;
    };
    ok = subst (λ t. OnOk fin.settled (told call.devices ≡ settled_all t)) built.publishes fin.ok;
    answer = subst (λ (answers : List Answered). IfOk call.outcome (IsRunAnswer plan details answers (states_after plan run) fin.settled)) same.0
        (subst (λ (states : List State). IfOk call.outcome (IsRunAnswer plan details left.answers states fin.settled)) same.1 fin.answer);
    counted = record {
      rose = rose_told (told opening) fin.settled (shelf_endings run) (faults opening) (faults left.shelf) (faults call.devices) built.caused fin.cause;
      least = least_by fin.settled (faults opening) (faults left.shelf) (faults call.devices) built.no_fall fin.cause;
      still = λ quiet none. still_by fin.settled (faults left.shelf) (faults call.devices) none fin.cause ∙ built.calm quiet;
    };
  }

-- ---- the answer of the build by one hand

-- the outcome of a calm run is that of the build by one hand
same_outcome : (plan : Plan) (details : List Details) (answers : List Answered) (states : List State) (supply : Supply) → are_calm states ≡ true → ((m i : ℕ) → supply.answers m i ≡ answer_at answers m i) → states ≡ (one_thread plan supply).states → run_outcome plan details answers states ≡ ran plan details supply
same_outcome plan details answers states supply still gives is =
    let status : run_status states ≡ states_status states = calm_status states still in
    let text : rows plan (answer_at answers) 0 details plan.modules states ≡ rows plan supply.answers 0 details plan.modules states = sym (rows_same plan supply.answers (answer_at answers) gives 0 details plan.modules states) in
    let by_states : List State → Outcome = λ these. record { text = report_text (rows plan supply.answers 0 details plan.modules these); status = states_status these } in
    ap (λ (n : ℕ). record { text = run_report plan details answers states; status = n }) status
    ∙ ap (λ (list : List ReportRow). record { text = report_text list; status = states_status states }) text
    ∙ ap by_states is

-- answers that are those of a list extend it
extends_by : (kept answers : List Answered) (said : ℕ → ℕ → GoalAnswer) → answers ≡ kept → ((m i : ℕ) → said m i ≡ answer_at answers m i) → Extends kept said
extends_by kept answers said e gives number goal a found = gives number goal ∙ ap (λ list. answer_at list number goal) e ∙ extends_itself kept number goal a found

module _ (plan : Plan) (details : List Details) (before now : Outside) (trace : List Event) (answers : List Answered) (outcome : Result Outcome OutOfMemory) (run : List RunEntry) (settled : Result (Unit {0}) DeviceFault)
    (sound : IsSoundPlan plan) (present : IfSome before.shelf (λ told. IsPresent plan (files_now told))) (many : length now.hands ≡ length before.hands) (e : IsEnd plan details before now trace answers outcome run settled) where
  -- below 3 the run is calm and settled
  both : (answer : Outcome) → IsRunAnswer plan details answers (states_after plan run) settled answer → answer.status < 3 → (settled ≡ Ok tt) × (are_calm (states_after plan run) ≡ true)
  both answer is low = clean_both (states_after plan run) settled (low_clean plan details answers (states_after plan run) settled answer is low)

  quiet_run : are_calm (states_after plan run) ≡ true → IsQuiet run
  quiet_run still = calm plan run e.of.crew.follows still

  builds_as_one : (shelf : Option ShelfTold) → before.shelf ≡ shelf → (answer : Outcome) → IsRunAnswer plan details answers (states_after plan run) settled answer → answer.status < 3 → IfSome shelf (λ told. IsPresent plan (files_now told))
      → IfSome shelf (λ told. (remote : Files) → AllTellFiles before.hands remote → (after : ShelfTold) × (now.shelf ≡ Some after) × RanSo plan details answers answer (files_now told) remote (files_now after))
  builds_as_one None at answer is low here = tt
  builds_as_one (Some told) at answer is low here = λ remote tell. (record told { publishes = told.publishes ++ publishes_in plan run; settled = length (told.publishes ++ publishes_in plan run) }, left, ran_so remote tell)
    where
      clean : (settled ≡ Ok tt) × (are_calm (states_after plan run) ≡ true)
      clean = both answer is low

      left : now.shelf ≡ settled_all (told_after plan run (Some told))
      left = subst (λ (s : Result (Unit {0}) DeviceFault). OnOk s (now.shelf ≡ settled_all (told_after plan run (Some told)))) clean.0 (subst (λ t. OnOk settled (now.shelf ≡ settled_all (told_after plan run t))) at e.ok)

      crew : IsCrewRun plan (Some told) before.hands now.hands run
      crew = subst (λ t. IsCrewRun plan t before.hands now.hands run) at e.of.crew

      outcome_is : answer ≡ run_outcome plan details answers (states_after plan run)
      outcome_is = clean_answer plan details answers (states_after plan run) settled answer is (low_clean plan details answers (states_after plan run) settled answer is low)

      ran_so : (remote : Files) → AllTellFiles before.hands remote → (supply : Supply) → supply.start ≡ files_now told → supply.remote ≡ remote → ((m i : ℕ) → supply.answers m i ≡ answer_at answers m i)
          → (answer ≡ ran plan details supply) × ((one_thread plan supply).files ≡ files_now (record told { publishes = told.publishes ++ publishes_in plan run }))
      ran_so remote tell supply start there gives =
          let same : EndsAsOne plan supply run = as_one plan told before.hands now.hands run supply crew (record { sound = sound; present = here; start = start; tell = subst (AllTellFiles before.hands) (sym there) tell; answers = extends_by (answers_in plan run) answers supply.answers e.of.kept gives }) clean.1 in (
            outcome_is ∙ same_outcome plan details answers (states_after plan run) supply clean.1 gives same.states,
            sym same.files ∙ ap (λ files. contents plan files run) start ∙ sym (names.told_contents plan run told),
          )

  all_settled : (told : Option ShelfTold) → IfSome (settled_all told) IsSettled
  all_settled None = tt
  all_settled (Some told) = refl

  -- the settled number doesn't fall, and each name is published once
  once_of : (shelf : Option ShelfTold) → MaySettle (told_after plan run shelf) now.shelf → PublishesOnce shelf now.shelf
  once_of None is = is
  once_of (Some told) is = (publishes_in plan run, is.0, is.3, names.once plan run sound e.of.crew.follows, is.1)

  answer_of : (answer : Outcome) (s : Result (Unit {0}) DeviceFault) → IsRunAnswer plan details answers (states_after plan run) s answer → IsShelfCounted run (more_of s) before now → IsAnswerOf plan details run before now answers answer
  answer_of answer (Ok done) is count = (is.memory, inl (is.is, count))
  answer_of answer (Err fault.Failed) is count = (is.memory, inr (is.is, count))
  answer_of answer (Err fault.Memory) is count = absurd is.is

  -- a worker of a hand
  worker : (w : ℕ) → w < length before.hands → w < plan.workers
  worker w low = subst (λ n. w < n) e.of.crew.many low

  -- all that is known of it
  pub reported : Reports plan details before now trace answers outcome
  reported = record {
    as_one = IfOk-weaker outcome _ _ (λ answer is low. builds_as_one before.shelf refl answer is low present) e.answer;
    settled = IfOk-weaker outcome _ _ (λ answer is low. subst (λ (told : Option ShelfTold). IfSome told IsSettled) (sym (subst (λ (s : Result (Unit {0}) DeviceFault). OnOk s (now.shelf ≡ settled_all (told_after plan run before.shelf))) (both answer is low).0 e.ok)) (all_settled (told_after plan run before.shelf))) e.answer;
    areas = IfOk-weaker outcome _ _ (λ answer is low w here. (e.of.crew.used w (worker w (subst (λ n. w < n) many here))).empty (quiet_endings w run (quiet_run (both answer is low).1))) e.answer;
    quiet = IfOk-weaker outcome _ _ (λ answer is low.
        let clean = both answer is low in
        record { shelf = e.counted.still (quiet_run clean.1) (ap more_of clean.0); hands = λ w here. no_fault_still plan run w (hand_of before.hands w) (hand_of now.hands w) (quiet_run clean.1) (e.of.crew.used w (worker w here)) }) e.answer;
    fault = IfOk-weaker outcome _ _ (λ answer is three. failed_so plan details before now answers run settled e.of.crew e.counted answer is (three_faulty plan details answers (states_after plan run) settled answer is three)) e.answer;
    bound = IfOk-weaker outcome _ _ (λ answer is. answer_bound plan details answers (states_after plan run) settled answer is) e.answer;
    comes = IfOk-weaker outcome _ _ (λ answer is. inr (run, e.of, answer_of answer settled is e.counted)) e.answer;
    history = inr (run, e.of);
    tells = record { many = many; each = λ w here. (e.of.crew.used w (worker w here)).told };
    once = once_of before.shelf e.of.published;
  }

-- all that is known of a build by hands that were swept
pub build_reported : {S H : Type 0} (told : S → Option ShelfTold) (faults : S → ℕ) (state : H → HandState) (plan : Plan) (details : List Details) (opening : S) (old new : List H) (before : List HandState) (left : Finished S) (call : Call S)
    → IsSoundPlan plan → length old ≡ plan.workers → IfSome (told opening) (λ t. IsPresent plan (files_now t)) → AreSwept before (map state old) → length new ≡ length old
    → ((run : List RunEntry) × IsBuilt told faults plan opening run left × ((i : ℕ) (d : H) → i < length old → IsWorkedBy plan (told opening) run i (state (get_or old i d)) (state (get_or new i d))))
    → Finishes told faults plan details left call
    → Reports plan details (record { shelf = told opening; faults = faults opening; hands = before }) (outside_by told faults state call.devices new) call.trace call.answers call.outcome
build_reported told faults state plan details opening old new before left call sound many present swept long (run, built, each) fin =
    let old_long = length_map state old in
    let new_long = length_map state new in
    let crew = crew_run plan (told opening) before (map state old) (map state new) run built.follows built.complete built.carried swept (old_long ∙ many) (λ w low. by_states state plan (told opening) run old new long each w (omega (arith, low, old_long))) in
    let size : length (map state new) ≡ length before = new_long ∙ long ∙ sym old_long ∙ swept.many in
    reported plan details (record { shelf = told opening; faults = faults opening; hands = before }) (outside_by told faults state call.devices new) call.trace call.answers call.outcome run fin.settled sound present size
    (ended told faults plan details opening run left call before (map state new) built fin crew)
