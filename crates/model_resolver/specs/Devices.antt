-- What the devices that POMs are looked up in tell and count, before calls and after them. Project rule.
use Rattle.std.specs.Prelude.{◌≡◌, ℕ, Bool, true, false, nat_lt, List, Option, None, Some, is_some}
use Rattle.mvn_shared.specs.Cause.{HasCause}
use Rattle.mvn_shared.specs.Files.{Files}
use Rattle.mvn_outside.specs.Shelf.{files_now}
use Rattle.mvn_outside.specs.declared.shelf.ShelfTold.{ShelfTold}
use Rattle.pom_source.specs.Worlds.{World}
use Rattle.model_resolver.specs.Finding.{FindsSo}
use Rattle.model_resolver.specs.declared.failures.Failures.{Failures}
use Rattle.model_resolver.specs.declared.failures.PomDevice.{PomDevice}
use Rattle.model_resolver.specs.declared.failures.PomDevice.TheVariants.{Tree, Shelf, Remote}
use Rattle.model_resolver.specs.declared.resolver.ProjectPom.{ProjectPom}

abbrev pub is_tree : Option PomDevice → Bool
is_tree (Some Tree) = true
is_tree other = false

abbrev pub is_shelf : Option PomDevice → Bool
is_shelf (Some Shelf) = true
is_shelf other = false

abbrev pub is_remote : Option PomDevice → Bool
is_remote (Some Remote) = true
is_remote other = false

-- how many faults each device counts
pub record Counts : Type 0 where
  pub tree : ℕ
  pub shelf : ℕ
  pub remote : ℕ

-- By the first device that failed, before and after: its count has risen, and no other's changed. Once one failed, none is asked.
abbrev pub Counted : (before now : Option PomDevice) → Counts → Counts → Type 0
Counted None first a b =
    HasCause a.tree b.tree (is_tree first) × HasCause a.shelf b.shelf (is_shelf first) × HasCause a.remote b.remote (is_remote first)
Counted (Some device) first a b = (first ≡ Some device) × (b ≡ a)

-- failures were counted exactly where a device failed
abbrev pub IsCounted : Failures → Type 0
IsCounted failures = is_some failures.first ≡ nat_lt 0 failures.count

-- what the devices tell
pub record Told : Type 0 where
  pub tree : Option Files
  pub shelf : Option ShelfTold
  pub remote : Option Files

-- all that clauses see of a resolver, but for the references to its devices
pub record Standing : Type 0 where
  pub told : Told
  pub counts : Counts
  pub failures : Failures
  pub project : List ProjectPom

-- calls tell the same, and count their failures
pub record Keeps (before now : Standing) : Type 0 where
  pub told : now.told ≡ before.told
  pub project : now.project ≡ before.project
  pub counted : Counted before.failures.first now.failures.first before.counts now.counts
  pub noted : IsCounted before.failures → IsCounted now.failures

-- the devices tell these files, and POMs are found in the world as in them
pub record FitsTold (told : Told) (project : List ProjectPom) (world : World) : Type 0 where
  pub tree : Files
  pub shelf : ShelfTold
  pub remote : Files
  pub told_so : told ≡ record { tree = Some tree; shelf = Some shelf; remote = Some remote }
  pub finds : FindsSo project tree (files_now shelf) remote world
