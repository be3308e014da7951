-- What a call answers and leaves, by what its words ask for and what stands outside. Project rules; Guide to Working with Multiple Modules, for
-- the build by one hand that it is measured by.
use Rattle.std.specs.Prelude.{◌≡◌, ◌⊎◌, ℕ, Bool, false, List, [], Option, None, Some, Result, Ok, Err}
use Rattle.mvn_shared.specs.Cause.{HasRisen}
use Rattle.mvn_shared.specs.Files.{Files}
use Rattle.goal_types.specs.declared.goal.GoalAnswer.{GoalAnswer}
use Rattle.mvn_base.specs.declared.machine.Machine.{Machine}
use Rattle.cli_words.specs.declared.command_line.CommandLine.{CommandLine}
use Rattle.model_resolver.specs.Devices.{Counted}
use Rattle.model_resolver.specs.declared.failures.PomDevice.{PomDevice}
use Rattle.build_core.specs.declared.event.Answered.{Answered}
use Rattle.build_core.specs.declared.event.Event.{Event}
use Rattle.build_core.specs.OneThread.{Supply, answer_at, one_thread}
use Rattle.event_core.specs.declared.entry.RunEntry.{RunEntry}
use Rattle.report.specs.declared.details.Details.{Details}
use Rattle.report.specs.FullDetails.{details_of}
use Rattle.module_plan.specs.declared.selected.Planned.{Planned}
use Rattle.build_outcome.specs.Answering.{AnswersBuild}
use Rattle.build_outcome.specs.Left.{AllStill, IsCallRun, IsIdle, SomeFailed}
use Rattle.build_outcome.specs.Outcomes.{ran}
use Rattle.build_outcome.specs.declared.outcome.Outcome.{Outcome}
use Rattle.call_plan.specs.Ending.{IsWhole, without_memory}
use Rattle.call_plan.specs.Found.{given_of, IsFound, IsFoundBy}
use Rattle.call_plan.specs.Outcome.{fault_line}
use Rattle.call_plan.specs.Seen.{After, IsAskedFirst, Seen, counts_of, first_remote, used}

-- ---- the outcome, as that of the build by one hand

-- what a call is given: the project's files, the repository's files at the start, the remote's, what the project may ask of the
-- machine, and the answers of the goals by module and goal
pub record World : Type 0 where
  pub tree : Files
  pub start : Files
  pub remote : Files
  pub machine : Machine
  pub answers : ℕ → ℕ → GoalAnswer

abbrev pub supply_of : World → Supply
supply_of world = record { start = world.start; remote = world.remote; answers = world.answers }

-- the full report is asked for
abbrev pub asks_full : Result CommandLine Outcome → Bool
asks_full (Err answer) = false
asks_full (Ok line) = line.full

-- what is told of the modules besides
abbrev pub told_of : (full : Bool) → Planned → List Details
told_of full p = details_of full p.models p.resolutions p.unbound

-- what is answered of what was found, and the files that are left
abbrev pub outcome : (full : Bool) → World → Result Planned Outcome → Outcome
outcome full world (Err answer) = answer
outcome full world (Ok p) = ran p.plan (told_of full p) (supply_of world)

abbrev pub files_after : World → Result Planned Outcome → Files
files_after world (Err answer) = world.start
files_after world (Ok p) = (one_thread p.plan (supply_of world)).files

-- the world has these files, this machine and these answers
pub record Agrees (world : World) (files before there : Files) (host : Machine) (kept : List Answered) : Type 0 where
  pub tree : world.tree ≡ files
  pub start : world.start ≡ before
  pub remote : world.remote ≡ there
  pub machine : world.machine ≡ host
  pub answers : (m i : ℕ) → world.answers m i ≡ answer_at kept m i

-- There is a plan of the words and files, or an outcome in its place, so that in all worlds with these files, this machine and these
-- answers the status and what is written are those of the outcome, and the files are those that it leaves.
abbrev pub IsOutcome : Result CommandLine Outcome → (tree remote : Files) → Machine → List Answered → Outcome → (before after : Files) → Type 0
IsOutcome asked tree remote machine answers answer before after = (found : Result Planned Outcome) × IsFound asked tree before remote machine found
    × ((world : World) → Agrees world tree before remote machine answers → (answer ≡ outcome (asks_full asked) world found) × (files_after world found ≡ after))

abbrev pub IsCall : Result CommandLine Outcome → (tree remote : Files) → Machine → List Answered → (status : ℕ) → (written now : Option (List ℕ)) → (before after : Files) → Type 0
IsCall asked tree remote machine answers status written now before after = (found : Result Planned Outcome) × IsFound asked tree before remote machine found
    × ((world : World) → Agrees world tree before remote machine answers → IsWhole (outcome (asks_full asked) world found) status written now × (files_after world found ≡ after))

-- ---- where an answer comes from

-- Nothing was done, and nothing outside has changed: no count of a device, not the repository, and of each hand neither what it tells nor the
-- pieces of its area.
pub record IsUnchanged (seen : Seen) (after : After) (trace : List Event) (answers : List Answered) : Type 0 where
  pub events : trace ≡ []
  pub none : answers ≡ []
  pub tree : after.faults ≡ seen.faults
  pub rest : after.outside ≡ seen.outside

-- what planning the line found, over any devices of which none failed
abbrev pub IsFoundIn : Seen → CommandLine → Result Planned Outcome → Type 0
IsFoundIn seen line found = IsFoundBy seen.tree seen.outside.shelf (first_remote seen.outside) (given_of seen.machine line) line found

-- Over any objects, where an answer comes from: it is what is answered in place of a line; the line of a device that failed while planning,
-- whose own count rose, and of the hands only the first one's remote was asked; what is answered in place of a plan; or a plan was built by the hands that are used, and it is an area's line or the
-- report of a run by them, with its causes.
pub data Comes (asked : Result CommandLine Outcome) (seen : Seen) (after : After) (trace : List Event) (answers : List Answered) (answer : Outcome) : Type 0 where
  by_words : asked ≡ Err answer → IsUnchanged seen after trace answers → Comes asked seen after trace answers answer
  by_device : (line : CommandLine) (device : PomDevice) → asked ≡ Ok line → answer ≡ fault_line device
      → Counted None (Some device) (counts_of seen.faults seen.outside) (counts_of after.faults after.outside)
      → IsAskedFirst seen.outside.hands after.outside.hands → IsIdle seen.outside after.outside trace answers → Comes asked seen after trace answers answer
  by_planning : (line : CommandLine) → asked ≡ Ok line → IsFoundIn seen line (Err answer) → IsUnchanged seen after trace answers → Comes asked seen after trace answers answer
  by_build : (line : CommandLine) (p : Planned) → asked ≡ Ok line → IsFoundIn seen line (Ok p)
      → AnswersBuild p.plan (told_of line.full p) (used asked seen.outside) (used asked after.outside) trace answers answer → Comes asked seen after trace answers answer

-- the text that is wanted comes from there, or memory ran out before there was one
abbrev pub IsWanted : Result CommandLine Outcome → Seen → After → List Event → List Answered → Outcome → Type 0
IsWanted asked seen after trace answers wanted = Comes asked seen after trace answers wanted ⊎ (wanted ≡ without_memory)

-- ---- what was done

-- A run of a plan of the line by the hands that are used: its events are the trace and its answers those that are kept, and its publishes stand
-- behind those that the repository told.
abbrev pub IsRunCall : Result CommandLine Outcome → Seen → After → List Event → List Answered → Type 0
IsRunCall asked seen after trace answers = (line : CommandLine) × (p : Planned) × (run : List RunEntry) × (asked ≡ Ok line) × IsFoundIn seen line (Ok p)
    × IsCallRun p.plan (used asked seen.outside) (used asked after.outside) trace answers run

-- at every status, and for want of memory too: nothing, or a run
abbrev pub IsHistory : Result CommandLine Outcome → Seen → After → List Event → List Answered → Type 0
IsHistory asked seen after trace answers = IsIdle seen.outside after.outside trace answers ⊎ IsRunCall asked seen after trace answers

-- ---- which device failed

-- none: not the project's folder, not the repository, and no device of a hand that is used
pub record NoneFailed (asked : Result CommandLine Outcome) (seen : Seen) (after : After) : Type 0 where
  pub tree : after.faults ≡ seen.faults
  pub rest : AllStill (used asked seen.outside) (used asked after.outside)

-- one of them; the repository's count says so where it tells
abbrev pub OneFailed : Result CommandLine Outcome → Seen → After → Type 0
OneFailed asked seen after = HasRisen seen.faults after.faults ⊎ SomeFailed (used asked seen.outside) (used asked after.outside)
