-- Runs of a build: events with the bytes that they published and the answers that they kept, and what stands after them. Own.
use Rattle.std.specs.Prelude.{◌≡◌, ℕ, suc, Bool, true, false, List, [], ◌∷◌, ◌++◌, map, fold, Option, Some, None}
use Rattle.std.specs.List.{list_all}
use Rattle.std.specs.Option.{option_map_or}
use Rattle.std.specs.FinMap as finite
use Rattle.mvn_shared.specs.Files.{Files}
use Rattle.goal_types.specs.declared.goal.OwnBytes.{OwnBytes}
use Rattle.build_core.specs.declared.plan.Plan.{Plan}
use Rattle.build_core.specs.declared.plan.PlanModule.{PlanModule}
use Rattle.build_core.specs.declared.event.Answered.{Answered}
use Rattle.build_core.specs.declared.event.Event.{Event}
use Rattle.build_core.specs.declared.event.Event.TheVariants as event
use Rattle.build_core.specs.declared.ending.Ending.TheVariants as ending
use Rattle.build_core.specs.Slots.{GoalsEnd, kept_of, run_goals}
use Rattle.build_core.specs.OneThread.{answer_at, name_of}
use Rattle.event_core.specs.declared.entry.Carried.{Carried}
use Rattle.event_core.specs.declared.entry.Carried.TheVariants as carried
use Rattle.event_core.specs.declared.entry.RunEntry.{RunEntry}
use Rattle.event_core.specs.Enabled.{IsRun}
use Rattle.scripts.specs.Outlines.{outline_of}
use Rattle.event_core.specs.Standing.{Standing, course_of, is_complete, module_of, standing_of}

abbrev pub events_of : List RunEntry → List Event
events_of entries = map (λ (e : RunEntry). e.event) entries

-- each event may follow those before it
abbrev pub IsRunOf : Plan → List RunEntry → Type 0
IsRunOf plan entries = IsRun (outline_of plan) [] (events_of entries)

-- where the build stands after a run
abbrev pub standing_of_run : Plan → List RunEntry → Standing
standing_of_run plan entries = standing_of (outline_of plan) (events_of entries)

-- each module has ended or was skipped
abbrev pub IsComplete : Plan → List RunEntry → Type 0
IsComplete plan entries = is_complete (standing_of_run plan entries) ≡ true

-- no module ended by a fault or for want of memory
abbrev pub is_quiet_event : Event → Bool
is_quiet_event (event.End w (ending.Fault device)) = false
is_quiet_event (event.End w ending.Memory) = false
is_quiet_event other = true

abbrev pub IsQuiet : List RunEntry → Type 0
IsQuiet entries = list_all (λ (e : RunEntry). is_quiet_event e.event) entries ≡ true

-- ---- the repository

-- the name that an event writes
abbrev pub writes_of : Plan → Event → Option (List ℕ)
writes_of plan (event.Publish w file) = Some (name_of plan file)
writes_of plan other = None

-- what is carried stands under the name that is written
abbrev pub put_under : Files → Option (List ℕ) → Carried → Files
put_under files (Some name) (carried.Published bytes) = finite.insert files name bytes
put_under files name what = files

abbrev pub put_carried : Plan → Files → Event → Carried → Files
put_carried plan files e what = put_under files (writes_of plan e) what

-- the repository's files after a run, one publish after another
abbrev pub contents : Plan → Files → List RunEntry → Files
contents plan start entries = fold (λ files (e : RunEntry). put_carried plan files e.event e.carried) start entries

-- ---- answers and outputs

-- the module that a worker builds
abbrev pub module_by : Plan → List RunEntry → ℕ → Option ℕ
module_by plan past w = module_of (course_of (standing_of_run plan past) w)

-- what an entry keeps: the answer to a goal of its worker's module
abbrev pub kept_by : Plan → List RunEntry → Event → Carried → List Answered
kept_by plan past (event.Answer w goal) (carried.Answered answer) = option_map_or (λ m. (record { «module» = m; goal = goal; answer = answer }) ∷ []) (module_by plan past w) []
kept_by plan past other what = []

abbrev pub answers_from : Plan → (past : List RunEntry) → List RunEntry → List Answered
answers_from plan past [] = []
answers_from plan past (e ∷ entries) = kept_by plan past e.event e.carried ++ answers_from plan (past ++ e ∷ []) entries

-- the answers that a run keeps, in order
abbrev pub answers_in : Plan → List RunEntry → List Answered
answers_in plan entries = answers_from plan [] entries

-- how a module's goals ended so far, with the outputs that are kept: a goal that isn't answered yet counts as done, which changes nothing
abbrev pub goals_in : List Answered → ℕ → PlanModule → GoalsEnd
goals_in kept number m = run_goals m.budget (answer_at kept number) 0 m.goals []

abbrev pub outputs_from : List Answered → ℕ → List PlanModule → List (List OwnBytes)
outputs_from kept number [] = []
outputs_from kept number (m ∷ modules) = kept_of (goals_in kept number m) ∷ outputs_from kept (suc number) modules

-- the outputs that each module keeps after a run
abbrev pub outputs_in : Plan → List RunEntry → List (List OwnBytes)
outputs_in plan entries = outputs_from (answers_in plan entries) 0 plan.modules
