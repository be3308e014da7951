-- What a run keeps of the POMs that it knows, and what its look-up tells. Project rule.
use Rattle.std.specs.Prelude.{◌≡◌, ℕ, List, Option, Some, IfSome}
use Rattle.std.specs.HashMap.{get}
use Rattle.mvn_shared.specs.Files.{Files}
use Rattle.mvn_base.specs.declared.gav.Gav.{Gav}
use Rattle.mvn_outside.specs.Shelf.{files_now}
use Rattle.mvn_outside.specs.declared.shelf.ShelfTold.{ShelfTold}
use Rattle.model_types.specs.declared.model.Model.{Model}
use Rattle.pom_source.specs.Worlds.{World}
use Rattle.pom_source.specs.declared.found.Given.{Given}
use Rattle.mvn_base.specs.Gav.{gav_eq}
use Rattle.effective.specs.Kept.{HoldsAll}
use Rattle.model_resolver.specs.Devices.{Told}
use Rattle.model_resolver.specs.Finding.{world_of}
use Rattle.model_resolver.specs.Resolving.{TellsSame, standing}
use Rattle.mediation.specs.Libraries.{Libraries}
use Rattle.mediation.specs.declared.known.Known.{Known}
use Rattle.mediation.specs.declared.known.Known.TheVariants as known
use Rattle.project_libraries.specs.Known.{known_at, libraries_of, module_of}
use Rattle.project_libraries.specs.declared.run_lookup.RunLookup.{RunLookup}

-- what is kept is what is known, and each module is kept
pub record HoldsKnown (world : World) (given : Given) (models : List Model) (kept : Gav → Option Known) : Type 0 where
  pub each : (gav : Gav) → IfSome (kept gav) (λ known. known ≡ known_at world given models gav)
  pub modules : (gav : Gav) → IfSome (module_of models gav) (λ m. kept gav ≡ Some (known.Model m))

module _ {T S R : Type 0} (tree_told : T → Option Files) (tree_faults : T → ℕ) (shelf_told : S → Option ShelfTold) (shelf_faults : S → ℕ)
    (remote_told : R → Option Files) (remote_faults : R → ℕ) where
  -- what the devices of a look-up tell
  abbrev pub told_by : RunLookup T S R → Told
  told_by l = (standing tree_told tree_faults shelf_told shelf_faults remote_told remote_faults l.source).told

  -- the devices tell these files, what is kept is so in their world, and these are its libraries
  pub record FitsRun (l : RunLookup T S R) (libraries : Libraries) : Type 0 where
    pub tree : Files
    pub shelf : ShelfTold
    pub remote : Files
    pub told_so : told_by l ≡ record { tree = Some tree; shelf = Some shelf; remote = Some remote }
    pub holds : HoldsAll (world_of l.source.project.now tree (files_now shelf) remote) l.given.now l.store.now
    pub keeps : HoldsKnown (world_of l.source.project.now tree (files_now shelf) remote) l.given.now l.own.now (get gav_eq l.memo.now)
    pub is : libraries ≡ libraries_of tree (files_now shelf) remote l.given.now l.source.project.now l.own.now

  -- the devices are the same and tell what they told; what is given is the same
  pub record AlikeRun (before now : RunLookup T S R) : Type 0 where
    pub source : TellsSame tree_told tree_faults shelf_told shelf_faults remote_told remote_faults before.source now.source
    pub given : now.given.now ≡ before.given.now
    pub own : now.own.now ≡ before.own.now
