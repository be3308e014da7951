-- A whole build by a crew: what its hands and the repository told before, what is counted of the hands behind it, and its run. Project rule;
-- Guide to Working with Multiple Modules, for what a build of several modules is.
use Rattle.std.specs.Prelude.{◌≡◌, ℕ, ◌<◌, Bool, true, false, List, [], length, Option, Some, None, option_map}
use Rattle.std.specs.FinMap as map
use Rattle.std.specs.List.{list_all, slice_index_or}
use Rattle.mvn_shared.specs.Files.{Files}
use Rattle.mvn_outside.specs.Shelf.{files_now}
use Rattle.mvn_outside.specs.declared.shelf.ShelfTold.{ShelfTold}
use Rattle.build_core.specs.declared.ending.Device.TheVariants as device
use Rattle.build_core.specs.declared.ending.Ending.{Ending}
use Rattle.build_core.specs.declared.plan.Plan.{Plan}
use Rattle.event_core.specs.Runs.{IsComplete, IsRunOf}
use Rattle.event_core.specs.Worlds.{AllFit, HandTold}
use Rattle.event_core.specs.declared.entry.RunEntry.{RunEntry}
use Rattle.crew_turns.specs.Endings.{endings_of, faults_of, is_quiet_end}
use Rattle.crew_turns.specs.Hands.{HandState, IsCounted, told_by}

-- ---- hands

-- a hand that tells nothing
abbrev pub no_hand : HandState
no_hand = record { told = told_by None false None; remote = 0; area = 0; gate = 0; pieces = map.empty }

-- the hand of a worker, and what it tells
abbrev pub hand_of : List HandState → ℕ → HandState
hand_of hands w = slice_index_or hands w no_hand

abbrev pub told_of : List HandState → ℕ → HandTold
told_of hands w = (hand_of hands w).told

-- each area tells what it stages, and each remote these files
abbrev pub AllTellFiles : List HandState → Files → Type 0
AllTellFiles hands remote = (w : ℕ) → w < length hands → ((told_of hands w).area ≡ true) × ((told_of hands w).remote ≡ Some remote)

-- a hand was used while modules ended so: it tells what it told, the count of each of its devices rose by their endings, and its area is
-- empty if none ended by a fault or for want of memory
pub record IsUsed (before now : HandState) (endings : List Ending) : Type 0 where
  pub told : now.told ≡ before.told
  pub remote : IsCounted (faults_of device.Remote endings) before.remote now.remote
  pub area : IsCounted (faults_of device.Area endings) before.area now.area
  pub gate : IsCounted (faults_of device.Gate endings) before.gate now.gate
  pub empty : list_all is_quiet_end endings ≡ true → now.pieces ≡ map.empty

-- ---- the run

-- the repository's files at the start, where it told them
abbrev pub start_of : Option ShelfTold → Option Files
start_of opening = option_map files_now opening

-- a complete run of the plan in which each entry fits what the repository and the hands told; and each hand was used as the modules of its
-- worker ended
pub record IsCrewRun (plan : Plan) (opening : Option ShelfTold) (before now : List HandState) (run : List RunEntry) : Type 0 where
  pub follows : IsRunOf plan run
  pub complete : IsComplete plan run
  pub many : length before ≡ plan.workers
  pub fits : AllFit plan (start_of opening) (told_of before) [] run
  pub used : (w : ℕ) → w < plan.workers → IsUsed (hand_of before w) (hand_of now w) (endings_of w run)
