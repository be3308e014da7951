-- What is known of a POM says what reading it says.
use Rattle.std.proofs.Common.{◌≡◌, ℕ, Bool, true, false, List, Option, None, Some, Result, Ok, Err, refl, sym, ap, subst, ◌∙◌, if◌then◌else◌}
use Rattle.mvn_base.specs.declared.gav.Gav.{Gav}
use Rattle.mvn_base.specs.declared.refusal.PomId.{PomId}
use Rattle.mvn_base.specs.declared.refusal.Refusal.{Refusal}
use Rattle.mvn_base.specs.declared.rule.Rule.TheVariants.{ImportCycle, ImportNotFound}
use Rattle.model_types.specs.declared.dependency.Dependency.{Dependency}
use Rattle.model_types.specs.declared.model.RawModel.{RawModel}
use Rattle.pom_source.specs.Answers.{Built, Fails, ◌>>=◌}
use Rattle.pom_source.specs.Chains.{stop_fails}
use Rattle.pom_source.specs.Refusals.{gav_refused}
use Rattle.pom_source.specs.Worlds.{World}
use Rattle.pom_source.specs.declared.fault.BuildFault.{BuildFault}
use Rattle.pom_source.specs.declared.fault.BuildFault.TheVariants.{Refused, Absent, Source, Memory}
use Rattle.pom_source.specs.declared.found.Found.{Found}
use Rattle.pom_source.specs.declared.found.Given.{Given}
use Rattle.lineage.specs.Lineage.{is_in, known, known_at, known_of, next_poms, pom_of, text_of}
use Rattle.lineage.specs.Reading.{read}
use Rattle.lineage.specs.declared.origin.Candidate.{Candidate}
use Rattle.lineage.specs.declared.origin.Candidate.TheVariants as candidates
use Rattle.lineage.proofs.Knowing.{OnlyRefuses, only_read}
use Rattle.lineage.proofs.Naming.{read_pom, text_pom}
use Rattle.effective.specs.Effective.{import_found, import_on, imported, met_import, read_found, wanted}
use Rattle.effective.specs.Knowing.{import_of, raw_of, said_of, unbuilt}

-- of one that is asked for
said_known : (pom : PomId) (said : Built RawModel) → ((known pom said >>= (λ candidate. Ok (Some candidate))) >>= said_of) ≡ said
said_known pom (Ok raw) = refl
said_known pom (Err (Refused r)) = refl
said_known pom (Err Absent) = refl
said_known pom (Err Source) = refl
said_known pom (Err Memory) = refl

pub asked_known : (found : Option Found) → (known_of found >>= said_of) ≡ read_found found
asked_known None = refl
asked_known (Some found) = said_known found.pom (read found.pom found.bytes)

-- one that isn't being built
pub known_apart : (found : Candidate) (raw : RawModel) (building : List PomId) → text_of found ≡ Ok raw → is_in (pom_of found) building ≡ false → is_in raw.pom building ≡ false
known_apart found raw building e free = ap (λ p. is_in p building) (text_pom found raw e) ∙ free

-- and so for whoever else imports it
pub raw_again : (pom other : PomId) (building seen : List PomId) (gav : Gav) (there : Built (Option Candidate)) (raw : RawModel) → (there >>= raw_of pom building gav) ≡ Ok raw → is_in raw.pom seen ≡ false → (there >>= raw_of other seen gav) ≡ Ok raw
raw_again pom other building seen gav (Ok None) raw e free = cc
raw_again pom other building seen gav (Ok (Some found)) raw e free = by (is_in (pom_of found) building) e
  where
    by : (b : Bool) → (if b then Err (gav_refused pom ImportCycle gav) else text_of found) ≡ Ok raw → unbuilt other seen gav found ≡ Ok raw
    by true e = cc
    by false e = ap (λ b. if b then Err (gav_refused other ImportCycle gav) else text_of found) (ap (λ p. is_in p seen) (sym (text_pom found raw e)) ∙ free) ∙ e
raw_again pom other building seen gav (Err fault) raw e free = e

-- one that is imported: looked at before it is read, or read and then looked at
module _ {A : Type 0} (pom : PomId) (building : List PomId) (gav : Gav) (it : Found) (on : RawModel → Built A) where
  abbrev looked_then : Bool → Built RawModel → Built A
  looked_then b said = (if b then Err (gav_refused pom ImportCycle gav) else said) >>= on

  same_looked : (f : Found → Built A) (said : Built RawModel) → f it ≡ (said >>= on) → (b : Bool) → ((if b then Err (gav_refused pom ImportCycle gav) else Ok it) >>= f) ≡ looked_then b said
  same_looked f said is true = refl
  same_looked f said is false = is

  known_later : (said : Built RawModel) → read it.pom it.bytes ≡ said → OnlyRefuses said → (((known it.pom said >>= (λ candidate. Ok (Some candidate))) >>= raw_of pom building gav) >>= on) ≡ looked_then (is_in it.pom building) said
  known_later (Ok raw) is only = ap (λ p. looked_then (is_in p building) (Ok raw)) (read_pom it.pom it.bytes raw is)
  known_later (Err (Refused r)) is only = refl
  known_later (Err Absent) is only = absurd only
  known_later (Err Source) is only = absurd only
  known_later (Err Memory) is only = absurd only

module _ (world : World) (given : Given) where
  known_import : (up : PomId → List PomId → Gav → Built (List Dependency)) (pom : PomId) (building : List PomId) (gav : Gav) (found : Option Found)
      → (met_import pom building gav found >>= import_on world given up building) ≡ ((known_of found >>= raw_of pom building gav) >>= import_of world given up building)
  known_import up pom building gav None = refl
  known_import up pom building gav (Some it) =
      same_looked pom building gav it (import_of world given up building) (import_on world given up building) (read it.pom it.bytes) refl (is_in it.pom building)
      ∙ sym (known_later pom building gav it (import_of world given up building) (read it.pom it.bytes) refl (only_read it.pom it.bytes))

  pub import_known : (up : PomId → List PomId → Gav → Built (List Dependency)) (pom : PomId) (building : List PomId) (gav : Gav)
      → import_found world given up pom building gav ≡ ((known_at world gav >>= raw_of pom building gav) >>= import_of world given up building)
  import_known up pom building gav = known_import up pom building gav (world.by_gav gav)

  -- an import fails where its POM does, or what it builds on
  pub found_stops : (left : ℕ) (pom : PomId) (building : List PomId) (gav : Gav) (fault : BuildFault) → Fails (known_at world gav >>= raw_of pom building gav) fault
      → Fails (import_found world given (imported world given left) pom building gav) fault
  found_stops left pom building gav fault fails =
      subst (λ s. Fails s fault) (sym (import_known (imported world given left) pom building gav)) (stop_fails (known_at world gav >>= raw_of pom building gav) (import_of world given (imported world given left) building) fault fails)

  pub found_fails : (left : ℕ) (pom : PomId) (building : List PomId) (gav : Gav) (raw : RawModel) (fault : BuildFault) → (known_at world gav >>= raw_of pom building gav) ≡ Ok raw
      → Fails (import_of world given (imported world given left) building raw) fault → Fails (import_found world given (imported world given left) pom building gav) fault
  found_fails left pom building gav raw fault first fails =
      subst (λ s. Fails s fault) (sym (import_known (imported world given left) pom building gav ∙ ap (λ s. s >>= import_of world given (imported world given left) building) first)) fails
