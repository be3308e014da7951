-- What is known of the modules that are built before their plan is numbered. Guide to Working with Multiple Modules, "Reactor Sorting":
-- each stands behind those that it is built with.
use Rattle.std.specs.Prelude.{◌≡◌, ℕ, ◌≤◌, true, List, Contains, slice_get, Some}
use Rattle.mvn_base.specs.FileName.{IsValid}
use Rattle.classpaths.specs.declared.resolution.Resolved.{Resolved}
use Rattle.scripts.specs.Climbing.{Climbs}
use Rattle.scripts.specs.Outlines.{is_listed}
use Rattle.event_core.specs.Sound.{are_below}
use Rattle.module_plan.specs.declared.selected.SelectedModule.{SelectedModule}

-- of one, at its place: its coordinates are valid, its upstreams ascend and stand before it, and each other module that is a dependency of
-- it is one of them
pub record IsPlaced (modules : List SelectedModule) (place : ℕ) (m : SelectedModule) : Type 0 where
  pub named : IsValid m.model.gav
  pub ascending : Climbs 0 m.upstream
  pub before : are_below place m.upstream ≡ true
  pub firm : (w : Resolved) (other : ℕ) (n : SelectedModule) → Contains m.resolution.winners w → slice_get modules other ≡ Some n
      → n.model.gav ≡ w.gav → is_listed other m.upstream ≡ true

-- of all: no two have the same coordinates, and there are 1 to 16 workers
pub record AreOrdered (workers : ℕ) (modules : List SelectedModule) : Type 0 where
  pub few : (1 ≤ workers) × (workers ≤ 16)
  pub apart : (a b : ℕ) (m n : SelectedModule) → slice_get modules a ≡ Some m → slice_get modules b ≡ Some n → m.model.gav ≡ n.model.gav → a ≡ b
  pub placed : (place : ℕ) (m : SelectedModule) → slice_get modules place ≡ Some m → IsPlaced modules place m
