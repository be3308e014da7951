-- The modules of a project, as its POMs list them. Guide to Working with Multiple Modules.
use Rattle.std.specs.Prelude.{◌≡◌, List, [], ◌∷◌, map, Ok}
use Rattle.std.specs.List.{IsDistinct}
use Rattle.mvn_shared.specs.Files.{Files}
use Rattle.mvn_base.specs.declared.refusal.PomId.TheVariants as ids
use Rattle.model_types.specs.declared.model.Model.{Model}
use Rattle.pom_source.specs.Worlds.{World}
use Rattle.pom_source.specs.declared.found.Given.{Given}
use Rattle.mvn_base.specs.Gav.{gav_eq}
use Rattle.discovery.specs.Listing.{IsProject}
use Rattle.discovery.specs.declared.pom.ModulePom.{ModulePom}
use Rattle.effective.specs.Effective.{effective}
use Rattle.model_resolver.specs.Finding.{world_of}
use Rattle.model_resolver.specs.declared.resolver.ProjectPom.{ProjectPom}
use Rattle.project_models.specs.Found.{found_pom}
use Rattle.project_models.specs.Models.{Modules}

-- a model for each POM, which is its effective model
pub data AreEffective (world : World) (given : Given) : List ProjectPom → List Model → Type 0 where
  no_pom : AreEffective world given [] []
  one_more : (p : ProjectPom) (poms : List ProjectPom) (m : Model) (models : List Model)
      → effective world given (ids.Path p.path) ≡ Ok m → AreEffective world given poms models
      → AreEffective world given (p ∷ poms) (m ∷ models)

module _ (tree local remote : Files) (given : Given) where
  -- the POMs are those of a project, and the models are theirs in the world in which coordinates lead to these POMs first
  pub record AreOfProject (modules : Modules) : Type 0 where
    pub found : List ModulePom
    pub is_project : IsProject (world_of [] tree local remote) given found
    pub poms : modules.poms ≡ map (found_pom (world_of [] tree local remote)) found
    pub models : AreEffective (world_of modules.poms tree local remote) given modules.poms modules.models
    pub apart : IsDistinct gav_eq (map (λ (m : Model). m.gav) modules.models)
