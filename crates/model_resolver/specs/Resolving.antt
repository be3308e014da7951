-- A resolver as clauses see it. Project rule.
use Rattle.std.specs.Prelude.{◌≡◌, ℕ, Option}
use Rattle.mvn_shared.specs.Files.{Files}
use Rattle.mvn_outside.specs.declared.shelf.ShelfTold.{ShelfTold}
use Rattle.pom_source.specs.Worlds.{World}
use Rattle.model_resolver.specs.Devices.{FitsTold, Keeps, Standing}
use Rattle.model_resolver.specs.declared.resolver.ModelResolver.{ModelResolver}

module _ {T S R : Type 0} (tree_told : T → Option Files) (tree_faults : T → ℕ) (shelf_told : S → Option ShelfTold) (shelf_faults : S → ℕ)
    (remote_told : R → Option Files) (remote_faults : R → ℕ) where
  abbrev pub standing : ModelResolver T S R → Standing
  standing r = record {
    told = record { tree = tree_told r.tree.now; shelf = shelf_told r.shelf.now; remote = remote_told r.remote.now };
    counts = record { tree = tree_faults r.tree.now; shelf = shelf_faults r.shelf.now; remote = remote_faults r.remote.now };
    failures = r.failures;
    project = r.project.now;
  }

  -- the devices are the same, and so is what they tell; their failures were counted
  pub record TellsSame (before now : ModelResolver T S R) : Type 0 where
    pub tree : now.tree.ghost_name ≡ before.tree.ghost_name
    pub shelf : now.shelf.ghost_name ≡ before.shelf.ghost_name
    pub remote : now.remote.ghost_name ≡ before.remote.ghost_name
    pub keeps : Keeps (standing before) (standing now)

  -- a world in which POMs are found as the devices tell
  abbrev pub FitsWorld : ModelResolver T S R → World → Type 0
  FitsWorld r world = FitsTold (standing r).told r.project.now world
