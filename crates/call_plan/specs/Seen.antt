-- What stands outside of a call, before it and after it, and which hands it uses. Project rules; Maven's option `-T` for how many.
use Rattle.std.specs.Prelude.{◌≡◌, ℕ, List, length, take, drop, Option, None, Some, Result, Ok, Err, IfSome}
use Rattle.mvn_shared.specs.Files.{Files}
use Rattle.mvn_base.specs.declared.machine.Machine.{Machine}
use Rattle.mvn_outside.specs.Shelf.{files_now}
use Rattle.mvn_outside.specs.declared.shelf.ShelfTold.{ShelfTold}
use Rattle.cli_words.specs.declared.command_line.CommandLine.{CommandLine}
use Rattle.model_resolver.specs.Devices.{Counted, Counts}
use Rattle.model_resolver.specs.declared.failures.PomDevice.{PomDevice}
use Rattle.crew_turns.specs.Hands.{HandState}
use Rattle.crew.specs.CrewOutcomes.{AllTellFiles, hand_of, told_of}
use Rattle.build_outcome.specs.Left.{Outside, outside_by}
use Rattle.build_outcome.specs.declared.outcome.Outcome.{Outcome}

-- before: what the project's folder tells and how often it failed so far, what the project may ask of the machine, and the repository and all hands
pub record Seen : Type 0 where
  pub tree : Option Files
  pub faults : ℕ
  pub machine : Machine
  pub outside : Outside

-- after: how often the project's folder failed, and the repository and all hands
pub record After : Type 0 where
  pub faults : ℕ
  pub outside : Outside

-- by what the project's folder, the repository and each hand show
abbrev pub seen_by : {T S H : Type 0} → (T → Option Files) → (T → ℕ) → (S → Option ShelfTold) → (S → ℕ) → (H → HandState) → T → S → List H → Machine → Seen
seen_by files faults told shelf_faults state tree shelf hands machine = record { tree = files tree; faults = faults tree; machine = machine; outside = outside_by told shelf_faults state shelf hands }

abbrev pub after_by : {T S H : Type 0} → (T → ℕ) → (S → Option ShelfTold) → (S → ℕ) → (H → HandState) → T → S → List H → After
after_by faults told shelf_faults state tree shelf hands = record { faults = faults tree; outside = outside_by told shelf_faults state shelf hands }

-- ---- the hands that are used

-- the repository, and so many hands from the first one on
abbrev pub with_first : ℕ → Outside → Outside
with_first count outside = record outside { hands = take count outside.hands }

-- as many hands as the line has workers; none where something is answered in place of a line
abbrev pub count_used : Result CommandLine Outcome → ℕ
count_used (Err answer) = 0
count_used (Ok line) = line.workers

-- the repository and the hands that are used
abbrev pub used : Result CommandLine Outcome → Outside → Outside
used asked outside = with_first (count_used asked) outside

-- the other hands are as they were
pub record OthersStay {A : Type 0} (asked : Result CommandLine Outcome) (before now : List A) : Type 0 where
  pub many : length now ≡ length before
  pub same : drop (count_used asked) now ≡ drop (count_used asked) before

-- ---- what planning asks

-- what the first hand's remote tells
abbrev pub first_remote : Outside → Option Files
first_remote outside = (told_of outside.hands 0).remote

-- how often the project's folder, the repository and the first hand's remote failed
abbrev pub counts_of : (tree : ℕ) → Outside → Counts
counts_of tree outside = record { tree = tree; shelf = outside.faults; remote = (hand_of outside.hands 0).remote }

-- ---- where all that is used tells

-- the project's folder tells its files, and the repository; all areas that are used tell, and all remotes that are used tell the same files
abbrev pub IfAllTell : Result CommandLine Outcome → Seen → ((tree : Files) (told : ShelfTold) (remote : Files) → Type 0) → Type 0
IfAllTell asked seen P = IfSome seen.tree (λ files. IfSome seen.outside.shelf (λ told. (remote : Files) → AllTellFiles (used asked seen.outside).hands remote → P files told remote))

-- the repository tells still, and its files before and after are related so
abbrev pub LeavesSo : ShelfTold → (now : Option ShelfTold) → (Files → Files → Type 0) → Type 0
LeavesSo told now relation = (after : ShelfTold) × (now ≡ Some after) × relation (files_now told) (files_now after)

-- planning asked the first hand's remote: of all hands, nothing else changed but how often it failed
pub record IsAskedFirst (before now : List HandState) : Type 0 where
  pub first : hand_of now 0 ≡ record (hand_of before 0) { remote = (hand_of now 0).remote }
  pub others : drop 1 now ≡ drop 1 before

-- so the repository tells what it told, and the counts of the project's folder, the repository and that remote say which of them failed, if one did
pub record AsksFirst (before now : After) (failed : Option PomDevice) : Type 0 where
  pub shelf : now.outside.shelf ≡ before.outside.shelf
  pub counted : Counted None failed (counts_of before.faults before.outside) (counts_of now.faults now.outside)
  pub asked : IsAskedFirst before.outside.hands now.outside.hands
