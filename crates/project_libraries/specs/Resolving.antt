-- What the modules of a project are built with: each module's dependencies are mediated, one module after another. Introduction to the
-- Dependency Mechanism; Guide to Working with Multiple Modules.
use Rattle.std.specs.Prelude.{◌≡◌, ℕ, List, [], take, slice_get, Some, Result, Ok, Err}
use Rattle.std.specs.List.{AllZip}
use Rattle.mvn_base.specs.declared.key.Key.{Key}
use Rattle.mvn_base.specs.declared.refusal.Place.TheVariants.{Name}
use Rattle.mvn_base.specs.declared.refusal.PomId.TheVariants as ids
use Rattle.mvn_base.specs.declared.refusal.Refusal.{Refusal}
use Rattle.mvn_base.specs.declared.rule.Rule.{Rule}
use Rattle.model_types.specs.declared.dependency.Dependency.{Dependency}
use Rattle.model_types.specs.declared.model.Model.{Model}
use Rattle.managed_deps.specs.Managed.{all_entries, first_of_each}
use Rattle.classpaths.specs.declared.resolution.Resolution.{Resolution}
use Rattle.pom_source.specs.declared.fault.BuildFault.{BuildFault}
use Rattle.pom_source.specs.declared.fault.BuildFault.TheVariants as fault
use Rattle.mediation.specs.Libraries.{Libraries}
use Rattle.mediation.specs.declared.fault.MediationFault.{MediationFault}
use Rattle.mediation.specs.declared.fault.MediationFault.TheVariants.{Refused}
use Rattle.resolution.specs.Resolved.{Mediates}
use Rattle.model_resolver.specs.declared.resolver.ProjectPom.{ProjectPom}

-- what a module manages, and what its own dependencies come to
abbrev pub managed_by : Model → List (Key × Dependency)
managed_by m = first_of_each (all_entries m.base.managed [])

abbrev pub MediatesModule : Libraries → Model → Result Resolution MediationFault → Type 0
MediatesModule libraries m result = Mediates libraries (managed_by m) m.base.dependencies result

-- a refusal of a module, by its POM's path and the name that the rule is met at
abbrev pub refused_at : ProjectPom → Rule → List ℕ → Refusal
refused_at pom rule place = record { pom = ids.Path pom.path; rule = rule; place = Name place }

-- a module is refused
pub record IsRefused (libraries : Libraries) (pom : ProjectPom) (m : Model) (refusal : Refusal) : Type 0 where
  pub rule : Rule
  pub place : List ℕ
  pub is : refusal ≡ refused_at pom rule place
  pub mediates : MediatesModule libraries m (Err (Refused rule place))

-- what a module comes to: its resolution or its refusal; of a device that failed and of want of memory nothing is said
abbrev pub ResolvesModule : Libraries → ProjectPom → Model → Result Resolution BuildFault → Type 0
ResolvesModule libraries pom m (Ok resolution) = MediatesModule libraries m (Ok resolution)
ResolvesModule libraries pom m (Err (fault.Refused refusal)) = IsRefused libraries pom m refusal
ResolvesModule libraries pom m (Err fault.Absent) = ⊥
ResolvesModule libraries pom m (Err fault.Source) = Unit {0}
ResolvesModule libraries pom m (Err fault.Memory) = Unit {0}

-- a resolution for each of some modules, in their order
abbrev pub AreResolved : Libraries → List Model → List Resolution → Type 0
AreResolved libraries models resolutions = AllZip (λ m resolution. MediatesModule libraries m (Ok resolution)) models resolutions

-- the module at a place is refused, and all before it are resolved
pub record IsFirstRefused (libraries : Libraries) (poms : List ProjectPom) (models : List Model) (refusal : Refusal) : Type 0 where
  pub at : ℕ
  pub pom : ProjectPom
  pub is_pom : slice_get poms at ≡ Some pom
  pub model : Model
  pub is_model : slice_get models at ≡ Some model
  pub refused : IsRefused libraries pom model refusal
  pub before : List Resolution
  pub resolved : AreResolved libraries (take at models) before

-- a resolution for each module, or the first refusal
abbrev pub Resolves : Libraries → List ProjectPom → List Model → Result (List Resolution) BuildFault → Type 0
Resolves libraries poms models (Ok resolutions) = AreResolved libraries models resolutions
Resolves libraries poms models (Err (fault.Refused refusal)) = IsFirstRefused libraries poms models refusal
Resolves libraries poms models (Err fault.Absent) = ⊥
Resolves libraries poms models (Err fault.Source) = Unit {0}
Resolves libraries poms models (Err fault.Memory) = Unit {0}
