-- The modules of a project: their POMs and their effective models, or the first refusal. Guide to Working with Multiple Modules; POM
-- Reference, "Maven Coordinates". The order of refusals is a project rule.
--
-- 1: the POMs of the project. 2: the effective model of each, in the same order. 3: no two of the same coordinates.
use Rattle.std.specs.Prelude.{◌≡◌, ◌≤◌, ◌+◌, ℕ, List, [], ◌∷◌, ◌++◌, find, length, map, zip, Option, None, Some, option_map, Result, Ok, Err}
use Rattle.std.specs.List.{AllByRecursion, IsDistinct}
use Rattle.std.specs.Option.{option_or}
use Rattle.mvn_shared.specs.Files.{Files}
use Rattle.mvn_base.specs.declared.gav.Gav.{Gav}
use Rattle.mvn_base.specs.declared.refusal.PomId.TheVariants as ids
use Rattle.mvn_base.specs.declared.rule.Rule.TheVariants.{DuplicateProject}
use Rattle.model_types.specs.declared.model.Model.{Model}
use Rattle.pom_source.specs.Answers.{Built, Fails, ◌>>=◌}
use Rattle.pom_source.specs.Refusals.{text_refused}
use Rattle.pom_source.specs.declared.fault.BuildFault.{BuildFault}
use Rattle.pom_source.specs.declared.found.Given.{Given}
use Rattle.mvn_base.specs.Gav.{gav_eq}
use Rattle.mvn_base.specs.Limits.{most_modules}
use Rattle.effective.specs.Lawful.{IsLawful}
use Rattle.model_resolver.specs.Finding.{world_of}
use Rattle.model_resolver.specs.declared.resolver.ProjectPom.{ProjectPom}
use Rattle.project_models.specs.Found.{models_of, project_poms}
use Rattle.project_models.specs.declared.doubles.Double.{Double}
use Rattle.project_models.specs.declared.project.ProjectModels.{ProjectModels}

-- the modules of a project, in the order in which they are listed
pub record Modules : Type 0 where
  pub poms : List ProjectPom
  pub models : List Model

-- the path of the first of some modules that has these coordinates
abbrev pub path_of : List (ProjectPom × Model) → Gav → Option (List ℕ)
path_of modules gav = option_map (λ m. m.0.path) (find (λ m. gav_eq m.1.gav gav) modules)

-- the path of a module, and of the one before it that has its coordinates
abbrev pub double : List (ProjectPom × Model) → ProjectPom × Model → Option Double
double before m = option_map (λ path. record { later = m.0.path; earlier = path }) (path_of before m.1.gav)

-- the first module whose coordinates one before it has
unfoldable pub first_double : (before after : List (ProjectPom × Model)) → Option Double
first_double before [] = None
first_double before (m ∷ after) = option_or (double before m) (first_double (before ++ m ∷ []) after)

abbrev pub unless_double : Option Double → Modules → Built Modules
unless_double None modules = Ok modules
unless_double (Some d) modules = Err (text_refused (ids.Path d.later) DuplicateProject d.earlier)

-- modules of which no two have the same coordinates
abbrev pub single : List ProjectPom → List Model → Built Modules
single poms models = unless_double (first_double [] (zip poms models)) (record { poms = poms; models = models })

-- what is given to a project: the files of its folder, of the local repository and of the remote one
module _ (tree local remote : Files) (given : Given) where
  -- steps 2 and 3, in a world in which the project's POMs are found by their coordinates, too
  abbrev pub modules_of : List ProjectPom → Built Modules
  modules_of poms = models_of (world_of poms tree local remote) given poms >>= single poms

  -- the modules of a project
  unfoldable pub project_models : Built Modules
  project_models = project_poms (world_of [] tree local remote) given >>= modules_of

-- a call gives these modules, or fails as is said
abbrev pub Gives : Built Modules → Result ProjectModels BuildFault → Type 0
Gives said (Ok p) = said ≡ Ok (record { poms = p.poms; models = p.models })
Gives said (Err fault) = Fails said fault

-- what holds of the modules of any project: a model for each POM, 1 to 1,024 of them, each lawful, no two of the same coordinates
pub record AreModules (poms : List ProjectPom) (models : List Model) : Type 0 where
  pub paired : length models ≡ length poms
  pub any : 1 ≤ length poms
  pub few : length poms ≤ 1 + most_modules
  pub lawful : AllByRecursion IsLawful models
  pub apart : IsDistinct gav_eq (map (λ (m : Model). m.gav) models)
