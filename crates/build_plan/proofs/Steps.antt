-- What planning gives, where a step gives something and where it fails.
use Rattle.std.proofs.Common.{◌≡◌, List, Ok, Err, refl}
use Rattle.mvn_shared.specs.Files.{Files}
use Rattle.classpaths.specs.declared.resolution.Resolution.{Resolution}
use Rattle.cli_words.specs.declared.command_line.CommandLine.{CommandLine}
use Rattle.goal_types.specs.declared.goal.SourceFile.{SourceFile}
use Rattle.pom_source.specs.Answers.{Built, Fails}
use Rattle.pom_source.specs.declared.fault.BuildFault.{BuildFault}
use Rattle.pom_source.specs.declared.fault.BuildFault.TheVariants.{Refused, Absent, Source, Memory}
use Rattle.pom_source.specs.declared.found.Given.{Given}
use Rattle.project_models.specs.Models.{Modules, project_models}
use Rattle.reactor.specs.declared.modules.ReactorModules.{ReactorModules}
use Rattle.reactor.specs.declared.modules.ReactorFault.{ReactorFault}
use Rattle.reactor.specs.declared.modules.ReactorFault.TheVariants as reactors
use Rattle.reactor.specs.Reactor.{Answers}
use Rattle.module_plan.specs.Plans.{numbered}
use Rattle.module_plan.specs.declared.selected.Planned.{Planned}
use Rattle.module_plan.specs.declared.selected.SelectedModule.{SelectedModule}
use Rattle.built_modules.specs.Selected.{AreModules}
use Rattle.build_plan.specs.Planning.{AreReady, AreResolved, IsPlanned, IsProject, IsReactor, IsRefused, Libraries, Plans, plan_fault, sources_of}
use Rattle.build_plan.specs.Planning.IsRefused.{by_circle, by_libraries, by_poms, by_size, by_sources}
use Rattle.build_plan.specs.declared.planning.PlanFault.TheVariants as faults

module _ (tree local remote : Files) (given : Given) (line : CommandLine) where
  -- the fault of a step, if its refusal is the first
  fails : {A : Type 0} (said : Built A) (fault : BuildFault) → Fails said fault → (said ≡ Err fault → IsRefused tree local remote given line fault)
      → Plans tree local remote given line (Err (faults.Build fault))
  fails said (Refused r) is refused = refused is
  fails said Absent is refused = refused is
  fails said Source is refused = record {}
  fails said Memory is refused = record {}

  -- 1 to 3
  pub poms_fail : (fault : BuildFault) → Fails (project_models tree local remote given) fault → Plans tree local remote given line (Err (faults.Build fault))
  poms_fail fault is = fails (project_models tree local remote given) fault is by_poms

  -- 4
  pub libraries_fail : (p : Modules) (fault : BuildFault) → IsProject tree local remote given line p → Libraries tree local remote given line p (Err fault)
      → Plans tree local remote given line (Err (faults.Build fault))
  libraries_fail p (Refused r) project is = by_libraries p project is
  libraries_fail p Absent project is = by_libraries p project is
  libraries_fail p Source project is = record {}
  libraries_fail p Memory project is = record {}

  -- 5 and 6
  pub reactor_fails : (p : Modules) (resolutions : List Resolution) (fault : ReactorFault) → Answers p.models resolutions line (Err fault)
      → AreResolved tree local remote given line p resolutions → Plans tree local remote given line (Err (plan_fault fault))
  reactor_fails p resolutions (reactors.Refused refusal) is resolved = by_circle p resolutions refusal resolved refl is
  reactor_fails p resolutions (reactors.Unknown place) is resolved = record { p = p; resolutions = resolutions; resolved = resolved; unknown = is }
  reactor_fails p resolutions reactors.Memory is resolved = record {}

  -- 7
  pub sources_fail : (p : Modules) (resolutions : List Resolution) (built : ReactorModules) (fault : BuildFault) → IsReactor tree local remote given line p resolutions built
      → Fails (sources_of tree local remote given line p built) fault → Plans tree local remote given line (Err (faults.Build fault))
  sources_fail p resolutions built fault reactor is = fails (sources_of tree local remote given line p built) fault is (by_sources p resolutions built reactor)

  ready : (p : Modules) (resolutions : List Resolution) (built : ReactorModules) (sources : List (List SourceFile)) (modules : List SelectedModule)
      → AreModules p.poms p.models resolutions built sources modules → IsReactor tree local remote given line p resolutions built
      → sources_of tree local remote given line p built ≡ Ok sources → AreReady tree local remote given line modules
  ready p resolutions built sources modules each reactor read = record { p = p; resolutions = resolutions; built = built; sources = sources; chosen = reactor; read = read; each = each }

  -- 8
  pub size_fails : (p : Modules) (resolutions : List Resolution) (built : ReactorModules) (sources : List (List SourceFile)) (modules : List SelectedModule) (fault : BuildFault)
      → AreModules p.poms p.models resolutions built sources modules → Fails (numbered line.phase line.workers local modules) fault
      → IsReactor tree local remote given line p resolutions built → sources_of tree local remote given line p built ≡ Ok sources
      → Plans tree local remote given line (Err (faults.Build fault))
  size_fails p resolutions built sources modules fault each is reactor read =
      fails (numbered line.phase line.workers local modules) fault is (by_size modules (ready p resolutions built sources modules each reactor read))

  pub planned_is : (p : Modules) (resolutions : List Resolution) (built : ReactorModules) (sources : List (List SourceFile)) (modules : List SelectedModule) (planned : Planned)
      → AreModules p.poms p.models resolutions built sources modules → numbered line.phase line.workers local modules ≡ Ok planned
      → IsReactor tree local remote given line p resolutions built → sources_of tree local remote given line p built ≡ Ok sources
      → IsPlanned tree local remote given line planned
  planned_is p resolutions built sources modules planned each is reactor read = record { modules = modules; ready = ready p resolutions built sources modules each reactor read; is = is }
