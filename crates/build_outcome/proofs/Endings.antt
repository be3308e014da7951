-- What is answered of a run, by how its modules stand.
use Rattle.std.proofs.Common.{◌≡◌, ◌≢◌, ◌<◌, ◌≤◌, ℕ, Bool, true, false, cond, List, [], ◌∷◌, ◌++◌, codes, map, length, nat_lt, Option, Some, None, IfSome, Result, Ok, Err, IfOk, OnOk, OnErr, refl, sym, ap, subst, ◌∙◌, arith}
use Rattle.std.specs.List.{list_all, list_any}
use Rattle.std.proofs.lemmas.Bool.{false≢true, lt-ltb}
use Rattle.build_core.specs.Locks.{below}
use Rattle.mvn_shared.specs.declared.memory.OutOfMemory.{OutOfMemory}
use Rattle.mvn_outside.specs.Shelf.{MaySettle, settled_all}
use Rattle.mvn_outside.specs.declared.fault.DeviceFault.{DeviceFault}
use Rattle.mvn_outside.specs.declared.fault.DeviceFault.TheVariants as fault
use Rattle.mvn_outside.specs.declared.shelf.ShelfTold.{ShelfTold}
use Rattle.build_core.specs.OneThread.{is_built}
use Rattle.build_core.specs.declared.ending.Ending.{Ending}
use Rattle.build_core.specs.declared.ending.Ending.TheVariants as ending
use Rattle.build_core.specs.declared.ending.State.{State}
use Rattle.build_core.specs.declared.ending.State.TheVariants.{Waiting, Running, Skipped, Ended}
use Rattle.build_core.specs.declared.event.Answered.{Answered}
use Rattle.build_core.specs.declared.plan.Plan.{Plan}
use Rattle.report.specs.Rows.{NamesFiles, names_file, states_status}
use Rattle.report.specs.declared.details.Details.{Details}
use Rattle.report.specs.Report.{line}
use Rattle.event_core.specs.Runs.{IsRunOf}
use Rattle.event_core.specs.SoundPlans.{IsSoundPlan}
use Rattle.event_core.specs.declared.entry.RunEntry.{RunEntry}
use Rattle.run_law.specs.Given.{state_after, states_after}
use Rattle.run_law.proofs.Basics.{and_is}
use Rattle.crew.specs.AsOne.{are_calm}
use Rattle.crew.proofs.Counts.{missing}
use Rattle.build_outcome.specs.declared.outcome.Outcome.{Outcome}
use Rattle.build_outcome.specs.Outcomes.{AnswersSettled, IsRunAnswer, is_clean, is_memory, run_outcome, run_report, run_status}

cond_small : (b : Bool) → cond b 0 1 ≤ 1
cond_small true = omega arith
cond_small false = omega arith

-- the status of a calm run is 0 or 1, and that of another is 3
pub calm_status : (states : List State) → are_calm states ≡ true → run_status states ≡ states_status states
calm_status states e = rw e refl

pub stormy_status : (states : List State) → are_calm states ≡ false → run_status states ≡ 3
stormy_status states e = rw e refl

pub calm_low : (states : List State) → are_calm states ≡ true → run_status states < 3
calm_low states e = let small = cond_small (list_all is_built states) in let is = calm_status states e in omega (arith, small, is)

-- what is answered of the report of a run
run_answer : (plan : Plan) (details : List Details) (answers : List Answered) (states : List State) (settled : Result (Unit {0}) DeviceFault) (report : List ℕ) (status : ℕ) (answer : Outcome) → list_any is_memory states ≡ false
    → report ≡ run_report plan details answers states → status ≡ run_status states → AnswersSettled report status settled answer → IsRunAnswer plan details answers states settled answer
run_answer plan details answers states (Ok done) report status answer memory told is e =
    record { is = e ∙ ap (λ (text : List ℕ). record { text = text; status = status }) told ∙ ap (λ (n : ℕ). record { text = run_report plan details answers states; status = n }) is; memory = memory }
run_answer plan details answers states (Err fault.Failed) report status answer memory told is e =
    record { is = e ∙ ap (λ (text : List ℕ). record { text = text ++ line (codes "fault settle"); status = 3 }) told; memory = memory }
run_answer plan details answers states (Err fault.Memory) report status answer memory told is e = absurd e

pub run_answers : (plan : Plan) (details : List Details) (answers : List Answered) (states : List State) (settled : Result (Unit {0}) DeviceFault) (report : List ℕ) (status : ℕ) (r : Result Outcome OutOfMemory) → list_any is_memory states ≡ false
    → report ≡ run_report plan details answers states → status ≡ run_status states → IfOk r (AnswersSettled report status settled) → IfOk r (IsRunAnswer plan details answers states settled)
run_answers plan details answers states settled report status (Ok answer) memory told is e = run_answer plan details answers states settled report status answer memory told is e
run_answers plan details answers states settled report status (Err x) memory told is e = tt

-- of a clean run it is the report and the status; else the status is 3; it is never 2
pub clean_answer : (plan : Plan) (details : List Details) (answers : List Answered) (states : List State) (settled : Result (Unit {0}) DeviceFault) (answer : Outcome) → IsRunAnswer plan details answers states settled answer → is_clean states settled ≡ true → answer ≡ run_outcome plan details answers states
clean_answer plan details answers states (Ok done) answer is e = is.is
clean_answer plan details answers states (Err other) answer is e = absurd (false≢true e)

pub fault_answer : (plan : Plan) (details : List Details) (answers : List Answered) (states : List State) (settled : Result (Unit {0}) DeviceFault) (answer : Outcome) → IsRunAnswer plan details answers states settled answer → is_clean states settled ≡ false → answer.status ≡ 3
fault_answer plan details answers states (Ok done) answer is e = ap (λ (o : Outcome). o.status) is.is ∙ stormy_status states e
fault_answer plan details answers states (Err fault.Failed) answer is e = ap (λ (o : Outcome). o.status) is.is
fault_answer plan details answers states (Err fault.Memory) answer is e = absurd is.is

abbrev pub IsRunStatus : ℕ → Type 0
IsRunStatus status = (status ≤ 3) × (status ≢ 2)

low_status : (b : Bool) → IsRunStatus (cond b 0 1)
low_status true = (omega arith, λ e. omega (arith, e))
low_status false = (omega arith, λ e. omega (arith, e))

pub of_three : (status : ℕ) → status ≡ 3 → IsRunStatus status
of_three status e = (omega (arith, e), λ two. omega (arith, e, two))

run_bound : (states : List State) (b : Bool) → are_calm states ≡ b → IsRunStatus (run_status states)
run_bound states true e = subst IsRunStatus (sym (calm_status states e)) (low_status (list_all is_built states))
run_bound states false e = of_three (run_status states) (stormy_status states e)

pub answer_bound : (plan : Plan) (details : List Details) (answers : List Answered) (states : List State) (settled : Result (Unit {0}) DeviceFault) (answer : Outcome) → IsRunAnswer plan details answers states settled answer → IsRunStatus answer.status
answer_bound plan details answers states (Ok done) answer is = subst IsRunStatus (sym (ap (λ (o : Outcome). o.status) is.is)) (run_bound states (are_calm states) refl)
answer_bound plan details answers states (Err fault.Failed) answer is = of_three answer.status (ap (λ (o : Outcome). o.status) is.is)
answer_bound plan details answers states (Err fault.Memory) answer is = absurd is.is

-- a clean run is calm and settled
pub clean_both : (states : List State) (settled : Result (Unit {0}) DeviceFault) → is_clean states settled ≡ true → (settled ≡ Ok tt) × (are_calm states ≡ true)
clean_both states (Ok done) e = (refl, e)
clean_both states (Err other) e = absurd (false≢true e)

pub not_low : (n : ℕ) → n ≡ 3 → n < 3 → ⊥
not_low n e lt = omega (arith, e, lt)

-- below 3 a run is clean, and at 3 it isn't
pub low_clean : (plan : Plan) (details : List Details) (answers : List Answered) (states : List State) (settled : Result (Unit {0}) DeviceFault) (answer : Outcome) → IsRunAnswer plan details answers states settled answer → answer.status < 3 → is_clean states settled ≡ true
low_clean plan details answers states settled answer is low = by (is_clean states settled) refl
  where
    by : (b : Bool) → is_clean states settled ≡ b → is_clean states settled ≡ true
    by true e = e
    by false e = absurd (not_low answer.status (fault_answer plan details answers states settled answer is e) low)

pub three_faulty : (plan : Plan) (details : List Details) (answers : List Answered) (states : List State) (settled : Result (Unit {0}) DeviceFault) (answer : Outcome) → IsRunAnswer plan details answers states settled answer → answer.status ≡ 3 → is_clean states settled ≡ false
three_faulty plan details answers states settled answer is three = by (is_clean states settled) refl
  where
    by : (b : Bool) → is_clean states settled ≡ b → is_clean states settled ≡ false
    by false e = e
    by true e = absurd (not_low answer.status three (subst (λ (n : ℕ). n < 3) (sym (ap (λ (o : Outcome). o.status) (clean_answer plan details answers states settled answer is e))) (calm_low states (clean_both states settled e).1)))

-- ---- a file that is missing is one of the plan

named : (plan : Plan) (s : State) → ((file : ℕ) → s ≡ Ended (ending.Missing file) → file < length plan.files) → names_file plan s ≡ true
named plan (Ended (ending.Missing file)) low = lt-ltb _ _ (low file refl)
named plan (Ended (ending.Fault device)) low = refl
named plan (Ended ending.Memory) low = refl
named plan (Ended ending.Built) low = refl
named plan (Ended (ending.Goal i)) low = refl
named plan (Ended ending.NoArtifact) low = refl
named plan (Ended (ending.OutputTooLarge i)) low = refl
named plan (Ended ending.ClasspathTooLarge) low = refl
named plan Waiting low = refl
named plan (Running w) low = refl
named plan (Skipped u) low = refl

named_all : (plan : Plan) (f : ℕ → State) → ((m : ℕ) → names_file plan (f m) ≡ true) → (ns : List ℕ) → list_all (names_file plan) (map f ns) ≡ true
named_all plan f each [] = refl
named_all plan f each (n ∷ ns) = and_is (names_file plan (f n)) (list_all (names_file plan) (map f ns)) (each n) (named_all plan f each ns)

-- so behind a run
pub run_named : (plan : Plan) (run : List RunEntry) → IsSoundPlan plan → IsRunOf plan run → NamesFiles plan (states_after plan run)
run_named plan run sound is = named_all plan (state_after plan run) (λ m. named plan (state_after plan run m) (λ file at. missing plan run m file sound is at)) (below (length plan.modules))

-- ---- settling

-- what is settled may be settled
pub may_settle : (middle now : Option ShelfTold) (settled : Result (Unit {0}) DeviceFault) → IfSome middle (λ t. t.settled ≤ length t.publishes) → OnOk settled (now ≡ settled_all middle) → OnErr settled (MaySettle middle now) → MaySettle middle now
may_settle None now (Ok done) within ok err = ok
may_settle (Some t) now (Ok done) within ok err = (length t.publishes, within, omega arith, ok)
may_settle middle now (Err f) within ok err = err
