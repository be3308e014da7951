-- What a worker leaves that puts its module's own files. Project rule.
use Rattle.std.specs.Prelude.{◌≡◌, ℕ, Bool, true, false, is_some, Option, Some, None}
use Rattle.mvn_shared.specs.Files.{Files}
use Rattle.mvn_outside.specs.Pieces.{Contents, Pieces}
use Rattle.build_core.specs.declared.ending.Device.TheVariants as device
use Rattle.build_core.specs.declared.ending.Ending.{Ending}
use Rattle.build_core.specs.declared.ending.Ending.TheVariants as ending
use Rattle.atomic_table.specs.Seated.{TableId}
use Rattle.crew_turns.specs.Hands.{IsAreaLeft, Test, told_by}
use Rattle.crew_turns.specs.Stages.{IsInstalling}
use Rattle.crew_turns.specs.Seen.{Follows, IsOf, KeepsFit, Told}
use Rattle.crew_turns.specs.Tasks.{ModuleTask, stood_by}

-- putting stops by a fault of the area or of the repository, or for want of memory
abbrev pub is_put_end : Ending → Bool
is_put_end (ending.Fault device.Area) = true
is_put_end (ending.Fault device.Shelf) = true
is_put_end ending.Memory = true
is_put_end other = false

-- so many own files are behind the worker; or it stopped, at one of them
abbrev pub IsBehind : ModuleTask → (count : ℕ) → Option Ending → Told → Type 0
IsBehind t count None pass = IsInstalling t count pass
IsBehind t count (Some e) pass = (is_put_end e ≡ true) × ((at : ℕ) × IsInstalling t at pass)

-- it went on in its module, whose goals stand as they did
pub record GoesOn (t : ModuleTask) (lock : TableId) (before pass : Told) : Type 0 where
  pub of : IsOf t.plan lock t.worker pass
  pub follows : Follows before pass
  pub goals : (stood_by t pass).goals ≡ (stood_by t before).goals

-- and left its area as one that stopped so; what its hand tells, its entries fit
pub record HasPut {A : Type 0} (contents : A → Option Contents) (faults : A → ℕ) (pieces : A → Pieces) (t : ModuleTask) (lock : TableId) (before pass : Told) (area left : A) (stop : Option Ending) : Type 0 where
  pub on : GoesOn t lock before pass
  pub area_left : IsAreaLeft contents faults pieces area left stop
  pub fits : (remote : Option Files) (gate : Option Test) → KeepsFit t.plan t.worker (told_by remote (is_some (contents area)) gate) before pass
