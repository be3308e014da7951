-- What is answered of a build of the generated project. Project rules; Guide to Working with Multiple Modules, for the build by one hand that
-- it is measured by.
use Rattle.std.specs.Prelude.{◌≡◌, ◌<◌, ◌≤◌, ◌⊎◌, ℕ, false, List, [], length, Result, Ok, Err, IfOk}
use Rattle.std.specs.FinMap as finite
use Rattle.mvn_shared.specs.declared.memory.OutOfMemory.{OutOfMemory}
use Rattle.mvn_base.specs.declared.machine.Machine.{Machine}
use Rattle.build_core.specs.OneThread.{one_thread}
use Rattle.build_core.specs.declared.event.Answered.{Answered}
use Rattle.build_core.specs.declared.event.Event.{Event}
use Rattle.report.specs.Rows.{rows, states_status}
use Rattle.cli_words.specs.declared.command_line.CommandLine.{CommandLine}
use Rattle.event_core.specs.declared.entry.RunEntry.{RunEntry}
use Rattle.module_plan.specs.declared.selected.Planned.{Planned}
use Rattle.build_outcome.specs.Left.{IsCallRun, Outside}
use Rattle.build_outcome.specs.declared.outcome.Outcome.{Outcome}
use Rattle.call_plan.specs.Found.{IsFound}
use Rattle.call_plan.specs.Headline.{Agrees, World, files_after, supply_of, told_of}
use Rattle.make_project.specs.Summaries.{summary_text}
use Rattle.generated.specs.EntryCounts.{entries_of}
use Rattle.generated.specs.Made.{made, project, remote}

-- ---- the outcome, as that of the build by one hand

-- the summary of a plan's build by one hand, and its status
abbrev pub summed : (poms : ℕ) → World → Planned → Outcome
summed poms world p = record {
  text = summary_text poms (rows p.plan world.answers 0 (told_of false p) p.plan.modules (one_thread p.plan (supply_of world)).states)
      (entries_of p.resolutions) (length (finite.keys (one_thread p.plan (supply_of world)).files));
  status = states_status (one_thread p.plan (supply_of world)).states;
}

-- what is answered of what was found
abbrev pub outcome : (poms : ℕ) → World → Result Planned Outcome → Outcome
outcome poms world (Err answer) = answer
outcome poms world (Ok p) = summed poms world p

-- There is a plan of the line over the generated project, or an outcome in its place, so that in all worlds of that project, with an empty
-- repository and these answers, the answer is the outcome.
abbrev pub IsGenerated : (poms : ℕ) → CommandLine → Machine → List Answered → Outcome → Type 0
IsGenerated poms line machine answers answer = (found : Result Planned Outcome) × IsFound (Ok line) (project poms) finite.empty remote machine found
    × ((world : World) → Agrees world (project poms) finite.empty remote machine answers → answer ≡ outcome poms world found)

-- ---- what was done

-- nothing
abbrev pub IsNothing : List Event → List Answered → Type 0
IsNothing trace answers = (trace ≡ []) × (answers ≡ [])

-- a complete run of a plan of the line by as many hands as it has workers, all of which are made: each of its entries fits them, its events
-- are the trace, and its answers, each the built-in goal's, those that are kept
abbrev pub IsGeneratedRun : (poms : ℕ) → CommandLine → Machine → List Event → List Answered → Type 0
IsGeneratedRun poms line machine trace answers = (p : Planned) × (run : List RunEntry) × (after : Outside)
    × IsFound (Ok line) (project poms) finite.empty remote machine (Ok p) × IsCallRun p.plan (made line.workers) after trace answers run

-- that, unless something is answered in place of a plan
abbrev pub IsOfRun : (poms : ℕ) → CommandLine → Machine → List Event → List Answered → Outcome → Type 0
IsOfRun poms line machine trace answers answer = answer.status < 2 → IsGeneratedRun poms line machine trace answers

-- ---- all that is known of such a build

-- It answers with the summary of a run, of which the status is 0 or 1, or with what is answered in place of a plan, with 2, and no device
-- fails; and it is a run, or nothing was done, which is so with 2.
pub record Generates (poms : ℕ) (line : CommandLine) (machine : Machine) (trace : List Event) (answers : List Answered) (said : Result Outcome OutOfMemory) : Type 0 where
  pub answer : IfOk said (IsGenerated poms line machine answers)
  pub bound : IfOk said (λ answer. answer.status ≤ 2)
  pub refused : IfOk said (λ answer. answer.status ≡ 2 → IsNothing trace answers)
  pub ran : IfOk said (IsOfRun poms line machine trace answers)
  pub history : IsNothing trace answers ⊎ IsGeneratedRun poms line machine trace answers
