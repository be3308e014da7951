-- What a run knows of each coordinate's POM: of a module's its effective model, and of any other what its effective model comes to. Maven
-- Model Builder, "Model building"; Introduction to the Dependency Mechanism. That a module's own model counts is a project rule.
use Rattle.std.specs.Prelude.{List, find, Option, None, Some, Ok, Err}
use Rattle.mvn_shared.specs.Files.{Files}
use Rattle.mvn_base.specs.declared.gav.Gav.{Gav}
use Rattle.mvn_base.specs.declared.refusal.PomId.TheVariants as ids
use Rattle.model_types.specs.declared.model.Model.{Model}
use Rattle.pom_source.specs.Answers.{Built}
use Rattle.pom_source.specs.Worlds.{World}
use Rattle.pom_source.specs.declared.fault.BuildFault.TheVariants.{Refused}
use Rattle.pom_source.specs.declared.found.Given.{Given}
use Rattle.mvn_base.specs.Gav.{gav_eq}
use Rattle.effective.specs.Effective.{effective}
use Rattle.model_resolver.specs.Finding.{world_of}
use Rattle.model_resolver.specs.declared.resolver.ProjectPom.{ProjectPom}
use Rattle.mediation.specs.Libraries.{Libraries}
use Rattle.mediation.specs.declared.known.Known.{Known}
use Rattle.mediation.specs.declared.known.Known.TheVariants as known
use Rattle.project_libraries.specs.Available.{available}

-- the model of the first module of these effective coordinates
abbrev pub module_of : List Model → Gav → Option Model
module_of models gav = find (λ m. gav_eq m.gav gav) models

-- a POM that is refused is known by its rule; one that isn't there is missing
abbrev pub known_of : Built Model → Known
known_of (Ok m) = known.Model m
known_of (Err (Refused refusal)) = known.Refused refusal.rule
known_of (Err fault) = known.Missing

-- a module first, and else what is built
abbrev pub known_as : Option Model → Built Model → Known
known_as (Some m) built = known.Model m
known_as None built = known_of built

unfoldable pub known_at : World → Given → List Model → Gav → Known
known_at world given models gav = known_as (module_of models gav) (effective world given (ids.Gav gav))

-- what there is for a project's modules: their models first, then the POMs in the project's files, the local repository's and the remote one's
abbrev pub libraries_in : World → (local remote : Files) → Given → List Model → Libraries
libraries_in world local remote given models = record {
  at = known_at world given models;
  versions = available local remote models;
}

abbrev pub libraries_of : (tree local remote : Files) → Given → List ProjectPom → List Model → Libraries
libraries_of tree local remote given poms models = libraries_in (world_of poms tree local remote) local remote given models
