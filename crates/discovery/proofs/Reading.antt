-- A POM of the project that is read.
use Rattle.std.proofs.Common.{◌≡◌, ℕ, List, Option, None, Some, Result, Ok, Err, refl, ap, sym, subst, ◌∙◌}
use Rattle.mvn_base.specs.declared.refusal.PomId.TheVariants as ids
use Rattle.model_types.specs.declared.model.RawModel.{RawModel}
use Rattle.pom_source.specs.Answers.{Built, Fails, Says, ◌>>=◌}
use Rattle.pom_source.specs.Chains.{ok_is}
use Rattle.pom_source.specs.declared.fault.BuildFault.{BuildFault}
use Rattle.pom_source.specs.declared.fault.BuildFault.TheVariants.{Refused, Absent, Source, Memory}
use Rattle.lineage.specs.Reading.{read, read_file}
use Rattle.discovery.specs.Discovery.{taken_up, pom_of, read_pom}
use Rattle.discovery.specs.declared.pom.ModulePom.{ModulePom}

some_is : {A : Type 0} (x y : A) → ◌≡◌ {A = Option A} (Some x) (Some y) → x ≡ y
some_is x y e = cc

-- what a text says, that was read
then_pom : (path bytes : List ℕ) (said : Built RawModel) (raw : RawModel) → (said >>= (λ r. Ok (Some r))) ≡ Ok (Some raw)
    → ((said >>= (λ r. Ok (pom_of path bytes r))) >>= (λ p. Ok (Some p))) ≡ Ok (Some (pom_of path bytes raw))
then_pom path bytes (Ok r) raw e = ap (λ m. Ok (Some (pom_of path bytes m))) (some_is r raw (ok_is (Some r) (Some raw) e))
then_pom path bytes (Err fault) raw e = cc

then_none : (path bytes : List ℕ) (said : Built RawModel) → ◌≡◌ {A = Built (Option RawModel)} (said >>= (λ r. Ok (Some r))) (Ok None)
    → ◌≡◌ {A = Built (Option ModulePom)} ((said >>= (λ r. Ok (pom_of path bytes r))) >>= (λ p. Ok (Some p))) (Ok None)
then_none path bytes (Ok r) e = cc
then_none path bytes (Err fault) e = cc

-- an outcome that isn't the fault's
other : {A B : Type 0} (x : A) (y : B) (fault : BuildFault) → Fails {A = A} (Ok x) fault → Fails {A = B} (Ok y) fault
other x y (Refused r) e = cc
other x y Absent e = cc
other x y Source e = record {}
other x y Memory e = record {}

then_fails : (path bytes : List ℕ) (said : Built RawModel) (fault : BuildFault) → Fails {A = Option RawModel} (said >>= (λ r. Ok (Some r))) fault
    → Fails {A = Option ModulePom} ((said >>= (λ r. Ok (pom_of path bytes r))) >>= (λ p. Ok (Some p))) fault
then_fails path bytes (Ok r) fault fails = other (Some r) (Some (pom_of path bytes r)) fault fails
then_fails path bytes (Err e) fault fails = again e fault fails
  where
    again : (e fault : BuildFault) → Fails {A = Option RawModel} (Err e) fault → Fails {A = Option ModulePom} (Err e) fault
    again e (Refused r) fails = cc
    again e Absent fails = cc
    again e Source fails = record {}
    again e Memory fails = record {}

pub read_none : (path : List ℕ) (there : Option (List ℕ)) → read_file (ids.Path path) there ≡ Ok None → taken_up read_pom path there ≡ Ok None
read_none path None e = refl
read_none path (Some bytes) e = then_none path bytes (read (ids.Path path) bytes) e

pub none_there : (path : List ℕ) (there : Option (List ℕ)) → None ≡ there → taken_up read_pom path there ≡ Ok None
none_there path there none = subst (λ o. taken_up read_pom path o ≡ Ok None) none refl

pub read_some : (path bytes : List ℕ) (there : Option (List ℕ)) (raw : RawModel) → Some bytes ≡ there → read_file (ids.Path path) there ≡ Ok (Some raw) → taken_up read_pom path there ≡ Ok (Some (pom_of path bytes raw))
read_some path bytes there raw some e =
    subst (λ o. taken_up read_pom path o ≡ Ok (Some (pom_of path bytes raw))) some
    (then_pom path bytes (read (ids.Path path) bytes) raw (subst (λ o. read_file (ids.Path path) o ≡ Ok (Some raw)) (sym some) e))

pub read_fails : (path : List ℕ) (there : Option (List ℕ)) (fault : BuildFault) → Fails (read_file (ids.Path path) there) fault → Fails (taken_up read_pom path there) fault
read_fails path None fault fails = other None None fault fails
read_fails path (Some bytes) fault fails = then_fails path bytes (read (ids.Path path) bytes) fault fails
