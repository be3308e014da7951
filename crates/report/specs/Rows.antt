-- What the report says of a build's modules. Project format.
use Rattle.std.specs.Prelude.{◌≡◌, ℕ, suc, Bool, true, nat_lt, List, [], ◌∷◌, ◌++◌, length, slice_get, Option, Some, None, if◌then◌else◌}
use Rattle.std.specs.List.{slice_index_or, list_all}
use Rattle.goal_types.specs.declared.goal.GoalCall.{GoalCall}
use Rattle.goal_types.specs.declared.goal.GoalAnswer.{GoalAnswer}
use Rattle.goal_types.specs.declared.goal.GoalAnswer.TheVariants.{Done, Produced, Failed}
use Rattle.build_core.specs.declared.plan.Plan.{Plan}
use Rattle.build_core.specs.declared.plan.PlanModule.{PlanModule}
use Rattle.build_core.specs.declared.ending.State.{State}
use Rattle.build_core.specs.declared.ending.State.TheVariants.{Waiting, Running, Skipped, Ended}
use Rattle.build_core.specs.declared.ending.Ending.{Ending}
use Rattle.build_core.specs.declared.ending.Ending.TheVariants as ending
use Rattle.build_core.specs.OneThread.{name_of, is_built}
use Rattle.report.specs.declared.row.RowEnd.{RowEnd}
use Rattle.report.specs.declared.row.RowEnd.TheVariants as row
use Rattle.report.specs.declared.row.ReportRow.{ReportRow}
use Rattle.report.specs.declared.details.Details.{Details}

-- a goal in the report: its plugin's artifact, its name and its execution
abbrev pub call_text : GoalCall → List ℕ
call_text call = call.artifact ++ 58 ∷ call.goal ++ 32 ∷ call.execution

abbrev pub call_text_of : Option GoalCall → List ℕ
call_text_of None = []
call_text_of (Some call) = call_text call

-- what a failed goal says
abbrev pub said : GoalAnswer → List ℕ
said Done = []
said (Produced bytes) = []
said (Failed text) = text

-- how a module's line ends, by its ending and its goals' answers
abbrev pub ending_row : Plan → PlanModule → (ℕ → GoalAnswer) → Ending → RowEnd
ending_row plan m answers ending.Built = row.Built
ending_row plan m answers (ending.Goal i) = row.Goal (call_text_of (slice_get m.goals i)) (said (answers i))
ending_row plan m answers (ending.Missing file) = row.Missing (name_of plan file)
ending_row plan m answers ending.NoArtifact = row.NoArtifact
ending_row plan m answers (ending.OutputTooLarge i) = row.OutputTooLarge
ending_row plan m answers ending.ClasspathTooLarge = row.ClasspathTooLarge
ending_row plan m answers (ending.Fault device) = row.Fault device
ending_row plan m answers ending.Memory = row.Memory

-- by how it stands at the end: a skipped module names the upstream that it was skipped for
abbrev pub state_row : Plan → PlanModule → (ℕ → GoalAnswer) → State → RowEnd
state_row plan m answers (Ended end) = ending_row plan m answers end
state_row plan m answers (Skipped u) = row.Skipped (slice_index_or plan.modules u m).gav
state_row plan m answers Waiting = row.Memory
state_row plan m answers (Running worker) = row.Memory

-- a module's row
abbrev pub row_of : PlanModule → RowEnd → Details → ReportRow
row_of m end details = record { gav = m.gav; end = end; notes = details.notes; tree = []; full = details.full }

-- the rows of these modules, the first of which has this number, by what is told of them besides and how they stand
abbrev pub rows : Plan → (ℕ → ℕ → GoalAnswer) → ℕ → List Details → List PlanModule → List State → List ReportRow
rows plan answers n [] modules states = []
rows plan answers n (d ∷ details) [] states = []
rows plan answers n (d ∷ details) (m ∷ modules) [] = []
rows plan answers n (d ∷ details) (m ∷ modules) (state ∷ states) = row_of m (state_row plan m (answers n) state) d ∷ rows plan answers (suc n) details modules states

-- the status of a build without faults: 0 if all modules are built
abbrev pub states_status : List State → ℕ
states_status states = if list_all is_built states then 0 else 1

-- a file that is missing is one of the plan
abbrev pub names_file : Plan → State → Bool
names_file plan (Ended (ending.Missing file)) = nat_lt file (length plan.files)
names_file plan other = true

abbrev pub NamesFiles : Plan → List State → Type 0
NamesFiles plan states = list_all (names_file plan) states ≡ true
