-- What is answered of a run, by how its modules stand and whether what it published is settled. Project rules.
use Rattle.std.specs.Prelude.{◌≡◌, ℕ, Bool, true, false, List, ◌++◌, codes, Result, Ok, Err, if◌then◌else◌}
use Rattle.std.specs.List.{list_any}
use Rattle.mvn_outside.specs.declared.fault.DeviceFault.{DeviceFault}
use Rattle.mvn_outside.specs.declared.fault.DeviceFault.TheVariants as fault
use Rattle.build_core.specs.OneThread.{Supply, answer_at, one_thread}
use Rattle.build_core.specs.declared.ending.Ending.TheVariants.{Memory}
use Rattle.build_core.specs.declared.ending.State.{State}
use Rattle.build_core.specs.declared.ending.State.TheVariants.{Ended}
use Rattle.build_core.specs.declared.event.Answered.{Answered}
use Rattle.build_core.specs.declared.plan.Plan.{Plan}
use Rattle.report.specs.Report.{line, report_text}
use Rattle.report.specs.Rows.{rows, states_status}
use Rattle.report.specs.declared.details.Details.{Details}
use Rattle.crew.specs.AsOne.{are_calm}
use Rattle.build_outcome.specs.declared.outcome.Outcome.{Outcome}

-- the report of the build by one hand, with what is told of each module besides, and its status
abbrev pub ran : Plan → List Details → Supply → Outcome
ran plan details supply = record {
  text = report_text (rows plan supply.answers 0 details plan.modules (one_thread plan supply).states);
  status = states_status (one_thread plan supply).states;
}

-- the report of modules that stand so, and its status: 0 if all are built, 1 if one isn't, and 3 if one ended by a fault
abbrev pub run_report : Plan → List Details → List Answered → List State → List ℕ
run_report plan details answers states = report_text (rows plan (answer_at answers) 0 details plan.modules states)

abbrev pub run_status : List State → ℕ
run_status states = if are_calm states then states_status states else 3

abbrev pub run_outcome : Plan → List Details → List Answered → List State → Outcome
run_outcome plan details answers states = record { text = run_report plan details answers states; status = run_status states }

-- and where what was published couldn't be settled
abbrev pub unsettled_outcome : Plan → List Details → List Answered → List State → Outcome
unsettled_outcome plan details answers states = record { text = run_report plan details answers states ++ line (codes "fault settle"); status = 3 }

-- an area couldn't be swept
unfoldable pub area_fault : Outcome
area_fault = record { text = line (codes "fault area"); status = 3 }

-- a module ended for want of memory
abbrev pub is_memory : State → Bool
is_memory (Ended Memory) = true
is_memory other = false

-- no module ended by a fault or for want of memory, and what was published is settled
abbrev pub is_clean : List State → Result (Unit {0}) DeviceFault → Bool
is_clean states (Ok done) = are_calm states
is_clean states (Err other) = false

-- what is answered of a report with this status, by whether what was published is settled
abbrev pub AnswersSettled : List ℕ → ℕ → Result (Unit {0}) DeviceFault → Outcome → Type 0
AnswersSettled report status (Ok done) answer = answer ≡ record { text = report; status = status }
AnswersSettled report status (Err fault.Failed) answer = answer ≡ record { text = report ++ line (codes "fault settle"); status = 3 }
AnswersSettled report status (Err fault.Memory) answer = ⊥

-- what is answered of a run: its report and status, or that it isn't settled; and memory didn't run out in a module
pub record IsRunAnswer (plan : Plan) (details : List Details) (answers : List Answered) (states : List State) (settled : Result (Unit {0}) DeviceFault) (answer : Outcome) : Type 0 where
  pub is : AnswersSettled (run_report plan details answers states) (run_status states) settled answer
  pub memory : list_any is_memory states ≡ false
