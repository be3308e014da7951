-- The plan of a build: what is read, looked up and refused, in eight steps. Each step is a definition of its own; here they are joined.
-- Guide to Working with Multiple Modules; Introduction to the Dependency Mechanism; Introduction to the Build Lifecycle. The order of
-- refusals is a project rule.
--
-- 1: the POMs of the project. 2: their effective models. 3: no two of the same coordinates. 4: what their dependencies lead to. 5: the
-- order of all modules. 6: those that the command line selects. 7: the sources of these. 8: the plan, unless it is too large.
use Rattle.std.specs.Prelude.{◌≡◌, ◌≤◌, ℕ, Bool, false, List, Contains, filter_map, map, slice_get, Option, Some, Result, Ok, Err, IfSome}
use Rattle.mvn_shared.specs.Files.{Files}
use Rattle.mvn_outside.specs.Shelf.{files_now}
use Rattle.mvn_outside.specs.declared.shelf.ShelfTold.{ShelfTold}
use Rattle.mvn_base.specs.declared.fault.ModelError.TheVariants as errors
use Rattle.mvn_base.specs.declared.refusal.Refusal.{Refusal}
use Rattle.goal_types.specs.declared.goal.SourceFile.{SourceFile}
use Rattle.model_types.specs.declared.model.Model.{Model}
use Rattle.classpaths.specs.declared.resolution.Resolution.{Resolution}
use Rattle.cli_words.specs.declared.command_line.CommandLine.{CommandLine}
use Rattle.cli_words.specs.declared.command_line.Word.{Word}
use Rattle.reactor.specs.Selection.{naming}
use Rattle.event_core.specs.SoundPlans.{IsSoundPlan}
use Rattle.pom_source.specs.Answers.{Built, fault_failed}
use Rattle.pom_source.specs.declared.fault.BuildFault.{BuildFault}
use Rattle.pom_source.specs.declared.fault.BuildFault.TheVariants.{Refused, Absent, Source, Memory}
use Rattle.pom_source.specs.declared.found.Given.{Given}
use Rattle.effective.specs.Lawful.{IsLawful}
use Rattle.project_models.specs.Models.{Modules, project_models}
use Rattle.project_libraries.specs.Known.{libraries_of}
use Rattle.project_libraries.specs.Resolving.{Resolves}
use Rattle.reactor.specs.Reactor.{AreBuilt, IsUnknown, Orders}
use Rattle.reactor.specs.declared.modules.ReactorModules.{ReactorModules}
use Rattle.reactor.specs.declared.modules.ReactorFault.{ReactorFault}
use Rattle.reactor.specs.declared.modules.ReactorFault.TheVariants as reactor
use Rattle.sources.specs.Modules.{module_sources}
use Rattle.module_plan.specs.Plans.{IsNumbered, most_events, numbered, present_in}
use Rattle.module_plan.specs.declared.selected.Planned.{Planned}
use Rattle.module_plan.specs.declared.selected.SelectedModule.{SelectedModule}
use Rattle.plan_law.specs.Ready.{AreOrdered}
use Rattle.built_modules.specs.Selected.{AreModules}
use Rattle.build_plan.specs.declared.planning.PlanFault.{PlanFault}
use Rattle.build_plan.specs.declared.planning.PlanFault.TheVariants as faults

-- why no modules are built, as a fault of planning
abbrev pub plan_fault : ReactorFault → PlanFault
plan_fault (reactor.Refused refusal) = faults.Build (Refused refusal)
plan_fault (reactor.Unknown place) = faults.Unknown place
plan_fault reactor.Memory = faults.Build Memory

-- the models of the modules that are built, in the order of the build
abbrev pub built_models : List Model → ReactorModules → List Model
built_models models built = filter_map (λ n. slice_get models n) built.numbers

-- what is given: the files of the project's folder, of the local repository at the start, and of the remote one; the machine and its
-- profiles; the words of the command line
module _ (tree local remote : Files) (given : Given) (line : CommandLine) where
  -- 1 to 3: the project has these modules
  abbrev pub IsProject : Modules → Type 0
  IsProject p = project_models tree local remote given ≡ Ok p

  -- 4: what the dependencies of each lead to, or the first refusal
  abbrev pub Libraries : Modules → Result (List Resolution) BuildFault → Type 0
  Libraries p answer = Resolves (libraries_of tree local remote given p.poms p.models) p.poms p.models answer

  -- up to step 4
  pub record AreResolved (p : Modules) (resolutions : List Resolution) : Type 0 where
    pub project : IsProject p
    pub resolved : Libraries p (Ok resolutions)

  -- up to step 6
  pub record IsReactor (p : Modules) (resolutions : List Resolution) (built : ReactorModules) : Type 0 where
    pub resolved : AreResolved p resolutions
    pub selected : AreBuilt p.models resolutions line built

  -- 7: the sources of those that are built, or too many
  abbrev pub sources_of : Modules → ReactorModules → Built (List (List SourceFile))
  sources_of p built = module_sources tree given.machine.root (built_models p.models built)

  -- up to step 7: the modules that are built, each with all that its plan is made from
  pub record AreReady (modules : List SelectedModule) : Type 0 where
    pub p : Modules
    pub resolutions : List Resolution
    pub built : ReactorModules
    pub sources : List (List SourceFile)
    pub chosen : IsReactor p resolutions built
    pub read : sources_of p built ≡ Ok sources
    pub each : AreModules p.poms p.models resolutions built sources modules

  -- 8: the plan of these
  pub record IsPlanned (planned : Planned) : Type 0 where
    pub modules : List SelectedModule
    pub ready : AreReady modules
    pub is : numbered line.phase line.workers local modules ≡ Ok planned

  -- the first refusal: of a step whose steps before gave something
  pub data IsRefused (fault : BuildFault) : Type 0 where
    by_poms : project_models tree local remote given ≡ Err fault → IsRefused fault
    by_libraries : (p : Modules) → IsProject p → Libraries p (Err fault) → IsRefused fault
    by_circle : (p : Modules) (resolutions : List Resolution) (refusal : Refusal) → AreResolved p resolutions
        → fault ≡ Refused refusal → Orders p.models resolutions (Err (errors.Refused refusal)) → IsRefused fault
    by_sources : (p : Modules) (resolutions : List Resolution) (built : ReactorModules) → IsReactor p resolutions built
        → sources_of p built ≡ Err fault → IsRefused fault
    by_size : (modules : List SelectedModule) → AreReady modules
        → numbered line.phase line.workers local modules ≡ Err fault → IsRefused fault

  -- the word at a place means no module that is built; no step before refuses
  pub record IsUnknownWord (place : ℕ) : Type 0 where
    pub p : Modules
    pub resolutions : List Resolution
    pub resolved : AreResolved p resolutions
    pub unknown : IsUnknown p.models resolutions line place

  -- what planning gives: the plan, or the first refusal; of a device that failed and of want of memory nothing is said
  abbrev pub Plans : Result Planned PlanFault → Type 0
  Plans (Ok planned) = IsPlanned planned
  Plans (Err (faults.Build (Refused refusal))) = IsRefused (Refused refusal)
  Plans (Err (faults.Build Absent)) = IsRefused Absent
  Plans (Err (faults.Build Source)) = Unit {0}
  Plans (Err (faults.Build Memory)) = Unit {0}
  Plans (Err (faults.Unknown place)) = IsUnknownWord place

-- planning says neither that a device failed nor that memory ran out
abbrev pub IsSaid : Result Planned PlanFault → Type 0
IsSaid (Ok planned) = Unit {0}
IsSaid (Err (faults.Build (Refused refusal))) = Unit {0}
IsSaid (Err (faults.Build Absent)) = Unit {0}
IsSaid (Err (faults.Build Source)) = ⊥
IsSaid (Err (faults.Build Memory)) = ⊥
IsSaid (Err (faults.Unknown place)) = Unit {0}

-- what any plan is, whatever is told of the files: that of some modules with lawful models, in the order of the build, up to the phase
-- and for the workers of the command line; it is sound, and has so many events at most
pub record IsPlan (line : CommandLine) (p : Planned) : Type 0 where
  pub modules : List SelectedModule
  pub lawful : (place : ℕ) (m : SelectedModule) → slice_get modules place ≡ Some m → IsLawful m.model
  pub ordered : AreOrdered line.workers modules
  pub numbered : IsNumbered line.phase line.workers modules p
  pub sound : IsSoundPlan p.plan
  pub few : p.plan.events ≤ most_events

-- a plan says of each of its files whether the local repository has it, wherever that tells
abbrev pub KnowsFiles : Option ShelfTold → Planned → Type 0
KnowsFiles shelf p = IfSome shelf (λ told. p.plan.present ≡ present_in (files_now told) p.plan.files)

-- a word that is said to mean no module is one of those of the line that name modules
abbrev pub NamesWord : CommandLine → Result Planned PlanFault → Type 0
NamesWord line (Err (faults.Unknown place)) = Contains (map (λ (w : Word). w.place) (naming line)) place
NamesWord line answer = Unit {0}

-- a device failed while planning
abbrev pub plan_failed : Result Planned PlanFault → Bool
plan_failed (Ok planned) = false
plan_failed (Err (faults.Build fault)) = fault_failed fault
plan_failed (Err (faults.Unknown place)) = false
