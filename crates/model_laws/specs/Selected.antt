-- What the plan of a build is made of. Guide to Working with Multiple Modules, "Reactor Sorting" and "Command Line Options".
use Rattle.std.specs.Prelude.{◌≡◌, List, codes, filter_map, map, slice_get, Ok}
use Rattle.mvn_shared.specs.Files.{Files}
use Rattle.mvn_base.specs.declared.refusal.PomId.TheVariants as ids
use Rattle.mvn_base.specs.declared.rule.Rule.TheVariants.{ModuleNotFound}
use Rattle.build_core.specs.declared.plan.PlanModule.{PlanModule}
use Rattle.classpaths.specs.declared.resolution.Resolution.{Resolution}
use Rattle.cli_words.specs.declared.command_line.CommandLine.{CommandLine}
use Rattle.pom_source.specs.Refusals.{text_refused}
use Rattle.pom_source.specs.declared.fault.BuildFault.{BuildFault}
use Rattle.pom_source.specs.declared.found.Given.{Given}
use Rattle.project_models.specs.Models.{Modules, project_models}
use Rattle.reactor.specs.Reactor.{AreBuilt}
use Rattle.reactor.specs.declared.modules.ReactorModules.{ReactorModules}
use Rattle.module_plan.specs.declared.selected.Planned.{Planned}
use Rattle.build_plan.specs.Planning.{built_models}

-- the project has some modules, and the words select of them; the plan has the effective models of these, with what their dependencies
-- lead to, and on which of them each stands, all in the order of the build; and the workers of the line
pub record IsOfSelected (tree local remote : Files) (given : Given) (line : CommandLine) (planned : Planned) : Type 0 where
  pub p : Modules
  pub resolutions : List Resolution
  pub built : ReactorModules
  pub project : project_models tree local remote given ≡ Ok p
  pub selected : AreBuilt p.models resolutions line built
  pub models : planned.models ≡ built_models p.models built
  pub resolved : planned.resolutions ≡ filter_map (λ n. slice_get resolutions n) built.numbers
  pub upstreams : map (λ (m : PlanModule). m.upstream) planned.plan.modules ≡ built.upstreams
  pub workers : planned.plan.workers ≡ line.workers

-- the refusal of a folder without a POM
abbrev pub missing_pom : BuildFault
missing_pom = text_refused (ids.Path (codes "pom.xml")) ModuleNotFound (codes "pom.xml")
