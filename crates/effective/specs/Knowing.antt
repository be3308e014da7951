-- What is said of the POM of coordinates by what is known of it. Project rule.
use Rattle.std.specs.Prelude.{List, Option, None, Some, Err, if◌then◌else◌}
use Rattle.mvn_base.specs.declared.gav.Gav.{Gav}
use Rattle.mvn_base.specs.declared.refusal.PomId.{PomId}
use Rattle.mvn_base.specs.declared.rule.Rule.TheVariants.{ImportCycle, ImportNotFound}
use Rattle.model_types.specs.declared.dependency.Dependency.{Dependency}
use Rattle.model_types.specs.declared.model.RawModel.{RawModel}
use Rattle.pom_source.specs.Answers.{Built, ◌>>=◌}
use Rattle.pom_source.specs.Refusals.{gav_refused}
use Rattle.pom_source.specs.Worlds.{World}
use Rattle.pom_source.specs.declared.fault.BuildFault.TheVariants.{Absent}
use Rattle.pom_source.specs.declared.found.Given.{Given}
use Rattle.lineage.specs.Lineage.{is_in, known_at, next_poms, pom_of, text_of}
use Rattle.lineage.specs.declared.origin.Candidate.{Candidate}
use Rattle.effective.specs.Effective.{managed_of, whole}

-- one that is asked for
abbrev pub said_of : Option Candidate → Built RawModel
said_of None = Err Absent
said_of (Some found) = text_of found

-- one that is imported and isn't being built
abbrev pub unbuilt : PomId → List PomId → Gav → Candidate → Built RawModel
unbuilt pom building gav found =
    if is_in (pom_of found) building then Err (gav_refused pom ImportCycle gav) else text_of found

abbrev pub raw_of : PomId → List PomId → Gav → Option Candidate → Built RawModel
raw_of pom building gav None = Err (gav_refused pom ImportNotFound gav)
raw_of pom building gav (Some found) = unbuilt pom building gav found

module _ (world : World) where
  abbrev pub said_at : Gav → Built RawModel
  said_at gav = known_at world gav >>= said_of

  abbrev pub raw_at : PomId → List PomId → Gav → Built RawModel
  raw_at pom building gav = known_at world gav >>= raw_of pom building gav

-- and what it manages
abbrev pub import_of : World → Given → (PomId → List PomId → Gav → Built (List Dependency)) → List PomId → RawModel
    → Built (List Dependency)
import_of world given up building raw =
    managed_of (whole world given (up raw.pom (next_poms building raw.pom)) raw)
