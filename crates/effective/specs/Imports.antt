-- What the imports of a model stand for: what the effective models of their POMs manage. Introduction to the Dependency Mechanism,
-- "Importing Dependencies".
use Rattle.std.specs.Prelude.{◌≡◌, true, false, List, [], ◌∷◌, Ok}
use Rattle.mvn_base.specs.declared.gav.Gav.{Gav}
use Rattle.mvn_base.specs.declared.refusal.PomId.{PomId}
use Rattle.mvn_base.specs.declared.refusal.PomId.TheVariants as ids
use Rattle.model_types.specs.declared.build.BuildBase.{BuildBase}
use Rattle.model_types.specs.declared.dependency.Dependency.{Dependency}
use Rattle.model_types.specs.declared.model.Model.{Model}
use Rattle.model_types.specs.declared.model.RawModel.{RawModel}
use Rattle.managed_deps.specs.Managed.{is_import}
use Rattle.pom_source.specs.Worlds.{World}
use Rattle.pom_source.specs.declared.found.Given.{Given}
use Rattle.lineage.specs.Lineage.{is_in}
use Rattle.model_steps.specs.Assembly.{model_of}
use Rattle.model_steps.specs.Building.{built}
use Rattle.model_steps.specs.Imports.{import_gav}
use Rattle.effective.specs.Effective.{asked, effective, full}

-- whoever is among the first is among the others
abbrev pub AreAmong : (poms others : List PomId) → Type 0
AreAmong poms others = (pom : PomId) → is_in pom poms ≡ true → is_in pom others ≡ true

module _ (world : World) (given : Given) where
  -- the entries that the effective model of coordinates manages
  pub record IsManagedAt (gav : Gav) (entries : List Dependency) : Type 0 where
    pub model : Model
    pub is_effective : effective world given (ids.Gav gav) ≡ Ok model
    pub manages : model.base.managed ≡ entries

  -- the lists that managed entries stand for, one for each import, in order
  pub data AreImports (pom : PomId) : List Dependency → List (List Dependency) → Type 0 where
    no_more : AreImports pom [] []
    own_entry : (d : Dependency) (ds : List Dependency) (lists : List (List Dependency)) → is_import d ≡ false
        → AreImports pom ds lists → AreImports pom (d ∷ ds) lists
    import_entry : (d : Dependency) (ds : List Dependency) (gav : Gav) (entries : List Dependency) (lists : List (List Dependency))
        → is_import d ≡ true → import_gav pom d ≡ Ok gav → IsManagedAt gav entries
        → AreImports pom ds lists → AreImports pom (d ∷ ds) (entries ∷ lists)

  -- a model is put together from the POM that is asked for, filled, and from what the effective models of its imports manage
  pub record IsPutTogether (pom : PomId) (model : Model) : Type 0 where
    pub raw : RawModel
    pub is_asked : asked world pom ≡ Ok raw
    pub filled : RawModel
    pub is_full : full world given raw ≡ Ok filled
    pub plugins : BuildBase
    pub are_built : built filled ≡ Ok plugins
    pub lists : List (List Dependency)
    pub are_imports : AreImports raw.pom filled.base.managed lists
    pub is_whole : model ≡ model_of filled plugins lists
