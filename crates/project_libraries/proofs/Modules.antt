-- What modules come to, one after another.
use Rattle.std.proofs.Common.{◌≡◌, ◌≤◌, ◌+◌, ℕ, zero, suc, List, [], ◌∷◌, ◌++◌, length, take, slice_get, Option, Some, Result, Ok, Err, subst, arith}
use Rattle.std.specs.List.{AllZip}
use Rattle.std.proofs.lemmas.List.{take_all}
use Rattle.mvn_base.specs.declared.refusal.Refusal.{Refusal}
use Rattle.mvn_base.specs.declared.rule.Rule.{Rule}
use Rattle.model_types.specs.declared.model.Model.{Model}
use Rattle.classpaths.specs.declared.resolution.Resolution.{Resolution}
use Rattle.pom_source.specs.Answers.{Says}
use Rattle.pom_source.specs.declared.fault.BuildFault.{BuildFault}
use Rattle.pom_source.specs.declared.fault.BuildFault.TheVariants as fault
use Rattle.mediation.specs.Libraries.{Libraries}
use Rattle.mediation.specs.declared.fault.MediationFault.TheVariants.{Refused}
use Rattle.model_resolver.specs.declared.resolver.ProjectPom.{ProjectPom}
use Rattle.project_libraries.specs.Resolving.{AreResolved, IsFirstRefused, IsRefused, MediatesModule, Resolves, ResolvesModule, refused_at}

-- a module is refused as its mediation is
pub module_refused : (libraries : Libraries) (pom : ProjectPom) (m : Model) (rule : Rule) (place : List ℕ) (r : Result Resolution BuildFault)
    → MediatesModule libraries m (Err (Refused rule place)) → Says (Err (fault.Refused (refused_at pom rule place))) r → ResolvesModule libraries pom m r
module_refused libraries pom m rule place (Ok x) mediates says = cc
module_refused libraries pom m rule place (Err (fault.Refused r)) mediates says = record { rule = rule; place = place; is = same r says; mediates = mediates }
  where
    same : (r : Refusal) → ◌≡◌ {A = Result Resolution BuildFault} (Err (fault.Refused (refused_at pom rule place))) (Err (fault.Refused r)) → r ≡ refused_at pom rule place
    same r e = cc
module_refused libraries pom m rule place (Err fault.Absent) mediates says = cc
module_refused libraries pom m rule place (Err fault.Source) mediates says = record {}
module_refused libraries pom m rule place (Err fault.Memory) mediates says = record {}

module _ (libraries : Libraries) where
  same_model : (x m : Model) (r : Resolution) → ◌≡◌ {A = Option Model} (Some x) (Some m) → MediatesModule libraries m (Ok r) → MediatesModule libraries x (Ok r)
  same_model x m r e mediates = subst (λ o. MediatesModule libraries o (Ok r)) (is x m e) mediates
    where
      is : (x m : Model) → ◌≡◌ {A = Option Model} (Some x) (Some m) → m ≡ x
      is x m e = cc

  one_resolved : (models : List Model) (done : List Resolution) (at : ℕ) (m : Model) (r : Resolution) → AreResolved libraries (take at models) done → slice_get models at ≡ Some m
      → MediatesModule libraries m (Ok r) → AreResolved libraries (take (suc at) models) (done ++ r ∷ [])
  one_resolved [] done at m r before is mediates = cc
  one_resolved (x ∷ models) [] zero m r before is mediates = (same_model x m r is mediates, tt)
  one_resolved (x ∷ models) (d ∷ done) zero m r before is mediates = absurd before
  one_resolved (x ∷ models) [] (suc at) m r before is mediates = absurd before
  one_resolved (x ∷ models) (d ∷ done) (suc at) m r before is mediates = (before.0, one_resolved models done at m r before.1 is mediates)

  -- one module more
  pub resolved_more : (models : List Model) (done : List Resolution) (at : ℕ) (m : Model) (r : Resolution) → AreResolved libraries (take at models) done → slice_get models at ≡ Some m
      → MediatesModule libraries m (Ok r) → AreResolved libraries (take (at + 1) models) (done ++ r ∷ [])
  resolved_more models done at m r before is mediates =
      let on : suc at ≡ at + 1 = omega arith in
      subst (λ n. AreResolved libraries (take n models) (done ++ r ∷ [])) on (one_resolved models done at m r before is mediates)

  -- all modules
  pub all_resolved : (models : List Model) (done : List Resolution) (at : ℕ) → length models ≤ at → AreResolved libraries (take at models) done → AreResolved libraries models done
  all_resolved models done at far resolved = subst (λ l. AreResolved libraries l done) (take_all at models far) resolved

  -- a module after those is refused
  pub refused_here : (poms : List ProjectPom) (models : List Model) (done : List Resolution) (at : ℕ) (pom : ProjectPom) (m : Model) (e : BuildFault)
      → slice_get poms at ≡ Some pom → slice_get models at ≡ Some m → AreResolved libraries (take at models) done
      → ResolvesModule libraries pom m (Err e) → Resolves libraries poms models (Err e)
  refused_here poms models done at pom m (fault.Refused r) is_pom is_model resolved refused =
      record { at = at; pom = pom; is_pom = is_pom; model = m; is_model = is_model; refused = refused; before = done; resolved = resolved }
  refused_here poms models done at pom m fault.Absent is_pom is_model resolved refused = refused
  refused_here poms models done at pom m fault.Source is_pom is_model resolved refused = record {}
  refused_here poms models done at pom m fault.Memory is_pom is_model resolved refused = record {}
