-- Projects whose modules are known in the project by their own coordinates, so that no look-up of their POMs leads to a repository. POM
-- Reference, "Maven Coordinates"; project rule.
use Rattle.std.specs.Prelude.{◌≡◌, Bool, true, List, Ok, Err, is_some}
use Rattle.std.specs.List.{list_all}
use Rattle.mvn_shared.specs.Files.{Files}
use Rattle.mvn_base.specs.declared.gav.Gav.{Gav}
use Rattle.model_types.specs.declared.model.Model.{Model}
use Rattle.model_resolver.specs.Finding.{project_of}
use Rattle.model_resolver.specs.declared.resolver.ProjectPom.{ProjectPom}
use Rattle.pom_source.specs.Answers.{Built}
use Rattle.pom_source.specs.declared.found.Given.{Given}
use Rattle.project_models.specs.Models.{Modules, project_models}
use Rattle.module_plan.specs.declared.selected.Planned.{Planned}

-- a POM of the project says these coordinates of itself
abbrev pub is_said : List ProjectPom → Gav → Bool
is_said poms gav = is_some (project_of poms gav)

-- so of the effective coordinates of each of some models
abbrev pub are_said : List ProjectPom → List Model → Bool
are_said poms models = list_all (λ (m : Model). is_said poms m.gav) models

-- so of each module that is built of a project, if there is one
abbrev pub is_apart : Built Modules → List Model → Bool
is_apart (Ok project) built = are_said project.poms built
is_apart (Err fault) built = true

-- The modules of a plan are known in their project: the effective coordinates of each are those that a POM of the project says of itself, before
-- any expression in them is filled.
abbrev pub IsApart : (tree start remote : Files) → Given → Planned → Type 0
IsApart tree start remote given p = is_apart (project_models tree start remote given) p.models ≡ true
