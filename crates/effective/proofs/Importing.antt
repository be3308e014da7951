-- How an import fails, by how many POMs may be built.
use Rattle.std.proofs.Common.{◌≡◌, ◌≢◌, ℕ, zero, suc, ◌-◌, List, Result, Ok, Err, refl, arith, ap, subst}
use Rattle.mvn_base.specs.declared.gav.Gav.{Gav}
use Rattle.mvn_base.specs.declared.refusal.PomId.{PomId}
use Rattle.mvn_base.specs.declared.rule.Rule.TheVariants.{ImportCycle}
use Rattle.model_types.specs.declared.dependency.Dependency.{Dependency}
use Rattle.pom_source.specs.Answers.{Built, Fails, Says}
use Rattle.pom_source.specs.Refusals.{gav_refused}
use Rattle.pom_source.specs.Worlds.{World}
use Rattle.pom_source.specs.declared.fault.BuildFault.{BuildFault}
use Rattle.pom_source.specs.declared.fault.BuildFault.TheVariants.{Refused, Absent, Source, Memory}
use Rattle.pom_source.specs.declared.found.Given.{Given}
use Rattle.effective.specs.Effective.{import_found, imported}
use Rattle.effective.specs.Kept.{IsImport, OrFails}
use Rattle.effective.specs.declared.kept.Import.{Import}

err_is : {A : Type 0} (x y : BuildFault) → ◌≡◌ {A = Built A} (Err x) (Err y) → x ≡ y
err_is x y e = cc

-- a refusal is one of whatever should be built
fails_as : (A B : Type 0) (said fault : BuildFault) → Fails {A = A} (Err said) fault → Fails {A = B} (Err said) fault
fails_as A B said (Refused r) e = ap (λ x. Err x) (err_is said (Refused r) e)
fails_as A B said Absent e = ap (λ x. Err x) (err_is said Absent e)
fails_as A B said Source e = record {}
fails_as A B said Memory e = record {}

refuses : (A B : Type 0) (is : B → Type 0) (said : BuildFault) (r : Result B BuildFault) → Says (Err said) r → OrFails {A = A} is (Err said) r
refuses A B is said (Ok x) e = cc
refuses A B is said (Err fault) e = fails_as B A said fault e

module _ (world : World) (given : Given) (left : ℕ) (pom : PomId) (building : List PomId) (gav : Gav) where
  pub imported_zero : (r : Result Import BuildFault) → left ≡ 0 → Says (Err (gav_refused pom ImportCycle gav)) r → OrFails (IsImport world given gav) (imported world given left pom building gav) r
  unfolding imported
  imported_zero r is = by left is
    where
      by : (n : ℕ) → n ≡ 0 → Says (Err (gav_refused pom ImportCycle gav)) r → OrFails (IsImport world given gav) (imported world given n pom building gav) r
      by zero few so = refuses (List Dependency) Import (IsImport world given gav) (gav_refused pom ImportCycle gav) r so
      by (suc n) few so = absurd (omega arith)

  pub imported_more : (fault : BuildFault) → left ≢ 0 → Fails (import_found world given (imported world given (left - 1)) pom building gav) fault → Fails (imported world given left pom building gav) fault
  unfolding imported
  imported_more fault is = by left is
    where
      by : (n : ℕ) → n ≢ 0 → Fails (import_found world given (imported world given (n - 1)) pom building gav) fault → Fails (imported world given n pom building gav) fault
      by zero few so = absurd (few refl)
      by (suc n) few so =
          let same : suc n - 1 ≡ n = omega arith in
          subst (λ k. Fails (import_found world given (imported world given k) pom building gav) fault) same so
