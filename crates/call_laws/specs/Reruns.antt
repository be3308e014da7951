-- A call that may be made again, and the files that it may be made over. Project rules.
use Rattle.std.specs.Prelude.{◌≡◌, ◌≤◌, ℕ, List, Option, Some, Result, Ok, Err}
use Rattle.mvn_shared.specs.Files.{Files}
use Rattle.build_core.specs.OneThread.{answer_at}
use Rattle.build_core.specs.declared.event.Answered.{Answered}
use Rattle.cli_words.specs.declared.command_line.CommandLine.{CommandLine}
use Rattle.build_outcome.specs.declared.outcome.Outcome.{Outcome}
use Rattle.mvn_base.specs.declared.machine.Machine.{Machine}
use Rattle.mvn_outside.specs.Shelf.{Between, files_now}
use Rattle.mvn_outside.specs.declared.shelf.ShelfTold.{ShelfTold}
use Rattle.call_plan.specs.Found.{IsFound, given_of}
use Rattle.call_plan.specs.Headline.{IsCall, World, files_after}
use Rattle.call_plan.specs.Seen.{LeavesSo, Seen, first_remote, used}
use Rattle.crew.specs.CrewOutcomes.{AllTellFiles}
use Rattle.module_plan.specs.declared.selected.Planned.{Planned}
use Rattle.run_law.specs.Given.{Extends}
use Rattle.call_laws.specs.RerunsApart.{IsApart}

-- a line asks for as many workers as there may be
abbrev pub HasWorkers : CommandLine → Type 0
HasWorkers line = (1 ≤ line.workers) × (line.workers ≤ 16)

-- a plan for so many workers, whose modules are known in their project
pub record MayAgain (line : CommandLine) (world : World) (p : Planned) : Type 0 where
  pub few : HasWorkers line
  pub apart : IsApart world.tree world.start world.remote (given_of world.machine line) p

-- where a plan was found
abbrev pub IfPlanned : Result CommandLine Outcome → Result Planned Outcome → (CommandLine → Planned → Type 0) → Type 0
IfPlanned (Ok line) (Ok p) P = P line p
IfPlanned (Ok line) (Err answer) P = Unit {0}
IfPlanned (Err answer) found P = Unit {0}

-- what is found in a world by what is asked, so that the call may be made again
pub record IsFirst (asked : Result CommandLine Outcome) (world : World) (found : Result Planned Outcome) : Type 0 where
  pub is : IsFound asked world.tree world.start world.remote world.machine found
  pub again : IfPlanned asked found (λ line p. MayAgain line world p)

-- files that such a call, or a stop, may have left: each name has what it had at the start, or what the whole call leaves it
abbrev pub IsBehind : World → Result Planned Outcome → Files → Type 0
IsBehind world found files = Between world.start files (files_after world found)

-- the world of these files, this machine and these answers
abbrev pub world_by : (tree start remote : Files) → Machine → List Answered → World
world_by tree start remote machine kept = record { tree = tree; start = start; remote = remote; machine = machine; answers = answer_at kept }

-- A call made again, over files that a call or a stop left of one that may be made again, with the same answers of the goals: its text, its status
-- and the files that it leaves are those of the call over the start.
abbrev pub IsCallAgain : Result CommandLine Outcome → (tree remote : Files) → Machine → List Answered → (status : ℕ) → (written now : Option (List ℕ)) → (before after : Files) → Type 0
IsCallAgain asked tree remote machine kept status written now before after = (start : Files) (found : Result Planned Outcome)
    → IsFirst asked (world_by tree start remote machine kept) found → IsBehind (world_by tree start remote machine kept) found before
    → IsCall asked tree remote machine kept status written now start after

-- The world is what a call saw: the folder and the repository told its files, and so did the remotes of the hands that are used, the first hand's
-- among them; and its answers are those that the call kept, where it kept any.
pub record IsSeen (asked : Result CommandLine Outcome) (seen : Seen) (told : ShelfTold) (kept : List Answered) (world : World) : Type 0 where
  pub tree : seen.tree ≡ Some world.tree
  pub shelf : seen.outside.shelf ≡ Some told
  pub start : world.start ≡ files_now told
  pub first : first_remote seen.outside ≡ Some world.remote
  pub remotes : AllTellFiles (used asked seen.outside).hands world.remote
  pub machine : world.machine ≡ seen.machine
  pub answers : Extends kept world.answers

-- whatever a call did, the files that it leaves lie behind it, and so do those that a stop in it leaves: in each world that it saw, of what is found there
abbrev pub LeavesBehind : Result CommandLine Outcome → Seen → (now : Option ShelfTold) → List Answered → Type 0
LeavesBehind asked seen now kept = (told : ShelfTold) (world : World) (found : Result Planned Outcome) → IsSeen asked seen told kept world
    → IsFound asked world.tree world.start world.remote world.machine found
    → LeavesSo told now (λ before left. (files : Files) → Between before files left → IsBehind world found files)
