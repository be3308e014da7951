-- What is kept of the imports of a run. Project rule.
use Rattle.std.specs.Prelude.{◌≡◌, ℕ, true, false, List, [], ◌∷◌, Option, IfSome, Result, Ok, Err}
use Rattle.std.specs.HashMap.{get}
use Rattle.mvn_base.specs.declared.gav.Gav.{Gav}
use Rattle.mvn_base.specs.declared.refusal.PomId.{PomId}
use Rattle.model_types.specs.declared.dependency.Dependency.{Dependency}
use Rattle.model_types.specs.declared.model.RawModel.{RawModel}
use Rattle.pom_source.specs.Answers.{Built, Fails}
use Rattle.pom_source.specs.Worlds.{World}
use Rattle.pom_source.specs.declared.fault.BuildFault.{BuildFault}
use Rattle.pom_source.specs.declared.found.Given.{Given}
use Rattle.mvn_base.specs.Gav.{gav_eq}
use Rattle.lineage.specs.Lineage.{is_in, next_poms}
use Rattle.lineage.specs.Stores.{Holds}
use Rattle.effective.specs.Effective.{entry, import_found, imported, imports_from, managed_of, whole}
use Rattle.effective.specs.Serving.{serves}
use Rattle.effective.specs.declared.kept.BuiltModel.{BuiltModel}
use Rattle.effective.specs.declared.kept.Import.{Import}
use Rattle.effective.specs.declared.kept.ImportLists.{ImportLists}
use Rattle.effective.specs.declared.run_store.RunStore.{RunStore}

-- a call gives what it should, or fails as is said
abbrev pub OrFails : {A B : Type 0} → (B → Type 0) → Built A → Result B BuildFault → Type 0
OrFails is said (Ok x) = is x
OrFails is said (Err fault) = Fails said fault

-- an import that is kept under coordinates
abbrev pub import_in : RunStore → Gav → Option Import
import_in store gav = get gav_eq store.imports gav

module _ (world : World) (given : Given) where
  -- what an import stands for, whoever asks, if none of the POMs below is being built and so many may be
  unfoldable pub IsImport : Gav → Import → Type 0
  IsImport gav import = (left : ℕ) (pom : PomId) (building : List PomId) → serves left building import.below ≡ true
      → imported world given left pom building gav ≡ Ok import.managed

  -- the same of its POM, beside which so many may be built
  unfoldable pub IsFound : Gav → Import → Type 0
  IsFound gav import = (left : ℕ) (pom : PomId) (building : List PomId) → serves left building import.below ≡ true
      → import_found world given (imported world given left) pom building gav ≡ Ok import.managed

  -- the same of the POM that was read, which isn't being built
  unfoldable pub IsRead : RawModel → Import → Type 0
  IsRead raw import = (left : ℕ) (building : List PomId) → serves left building import.below ≡ true
      → (is_in raw.pom building ≡ false)
      × (managed_of (whole world given (imported world given left raw.pom (next_poms building raw.pom)) raw) ≡ Ok import.managed)

  -- a POM in all steps
  unfoldable pub IsBuilt : RawModel → BuiltModel → Type 0
  IsBuilt raw built = (left : ℕ) (building : List PomId) → serves left building built.below ≡ true
      → whole world given (imported world given left raw.pom building) raw ≡ Ok built.model

  -- the imports among managed entries
  unfoldable pub AreKept : PomId → List Dependency → ImportLists → Type 0
  AreKept pom entries imports = (left : ℕ) (building : List PomId) → serves left building imports.below ≡ true
      → imports_from pom (imported world given left pom building) [] entries ≡ Ok imports.lists

  -- a managed entry
  unfoldable pub IsEntry : PomId → Dependency → ImportLists → Type 0
  IsEntry pom item imports = (left : ℕ) (building : List PomId) → serves left building imports.below ≡ true
      → entry pom (imported world given left pom building) item ≡ Ok imports.lists

  unfoldable pub HoldsImports : RunStore → Type 0
  HoldsImports store = (gav : Gav) → IfSome (import_in store gav) (IsImport gav)

  -- all that was read and built in a run is so in a world
  pub record HoldsAll (store : RunStore) : Type 0 where
    pub lineages : Holds world given store.lineages
    pub imports : HoldsImports store
