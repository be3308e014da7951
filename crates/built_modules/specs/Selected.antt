-- The modules that are built, each with all that its plan is made from. Guide to Working with Multiple Modules; that sources are read
-- whatever the phase is a project rule.
use Rattle.std.specs.Prelude.{◌≡◌, ℕ, List, length, get_or, map, slice_get, Some}
use Rattle.std.specs.List.{IsDistinct}
use Rattle.mvn_base.specs.FileName.{IsValid}
use Rattle.mvn_base.specs.Gav.{gav_eq}
use Rattle.reactor.specs.Reactor.{AreInOrder, StandsOnWinners}
use Rattle.model_types.specs.declared.model.Model.{Model}
use Rattle.model_resolver.specs.declared.resolver.ProjectPom.{ProjectPom}
use Rattle.reactor.specs.declared.modules.ReactorModules.{ReactorModules}
use Rattle.classpaths.specs.declared.resolution.Resolution.{Resolution}
use Rattle.module_plan.specs.declared.selected.SelectedModule.{SelectedModule}
use Rattle.goal_types.specs.declared.goal.SourceFile.{SourceFile}

-- a POM and its model; what its dependencies lead to; the places of those before it, and its sources
abbrev pub Parts : Type 0
Parts = (ProjectPom × Model) × (Resolution × (List ℕ × List SourceFile))

abbrev pub selected : Parts → SelectedModule
selected parts = record {
  model = parts.0.1;
  pom = parts.0.0.bytes;
  resolution = parts.1.0;
  upstream = parts.1.1.0;
  sources = parts.1.1.1;
}

-- a module that is built is the project's of its number
pub record IsModule (poms : List ProjectPom) (models : List Model) (resolutions : List Resolution) (number : ℕ) (m : SelectedModule) : Type 0 where
  pub pom : ProjectPom
  pub is_pom : slice_get poms number ≡ Some pom
  pub text : m.pom ≡ pom.bytes
  pub model : slice_get models number ≡ Some m.model
  pub resolution : slice_get resolutions number ≡ Some m.resolution

-- so each, with the places of those before it and its sources
pub record AreModules (poms : List ProjectPom) (models : List Model) (resolutions : List Resolution) (built : ReactorModules) (sources : List (List SourceFile)) (modules : List SelectedModule) : Type 0 where
  pub long : length modules ≡ length built.numbers
  pub each : (place : ℕ) (m : SelectedModule) → slice_get modules place ≡ Some m → IsModule poms models resolutions (get_or built.numbers place 0) m
  pub upstream : (place : ℕ) (m : SelectedModule) → slice_get modules place ≡ Some m → slice_get built.upstreams place ≡ Some m.upstream
  pub source : (place : ℕ) (m : SelectedModule) → slice_get modules place ≡ Some m → slice_get sources place ≡ Some m.sources

-- what is known of them: no two modules of the project have the same coordinates, and these are valid; those that are built stand behind
-- those that they stand on, and on the winners of their dependencies
pub record AreSelected (models : List Model) (resolutions : List Resolution) (built : ReactorModules) : Type 0 where
  pub apart : IsDistinct gav_eq (map (λ (m : Model). m.gav) models)
  pub valid : (number : ℕ) (m : Model) → slice_get models number ≡ Some m → IsValid m.gav
  pub order : AreInOrder (length models) built
  pub stands : StandsOnWinners models resolutions built
