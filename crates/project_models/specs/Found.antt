-- The POMs of a project, with their texts, and the effective model of each. Guide to Working with Multiple Modules.
use Rattle.std.specs.Prelude.{ℕ, List, [], ◌∷◌, map, unwrap_or, Ok}
use Rattle.mvn_base.specs.declared.refusal.PomId.TheVariants as ids
use Rattle.model_types.specs.declared.model.Model.{Model}
use Rattle.pom_source.specs.Answers.{Built, ◌>>=◌}
use Rattle.pom_source.specs.Worlds.{World}
use Rattle.pom_source.specs.declared.found.Given.{Given}
use Rattle.lineage.specs.Beside.{raw_gav}
use Rattle.discovery.specs.Discovery.{discovered}
use Rattle.discovery.specs.declared.pom.ModulePom.{ModulePom}
use Rattle.effective.specs.Effective.{effective}
use Rattle.model_resolver.specs.declared.resolver.ProjectPom.{ProjectPom}

-- a value for each item in turn, or the first refusal
unfoldable pub each : {A B : Type 0} → (A → Built B) → List A → Built (List B)
each f [] = Ok []
each f (x ∷ xs) = f x >>= (λ y. each f xs >>= (λ ys. Ok (y ∷ ys)))

-- a POM with a text, and with its coordinates as it says them
abbrev pub with_text : ModulePom → List ℕ → ProjectPom
with_text m bytes = record { path = m.path; gav = raw_gav m.raw; bytes = bytes }

-- a POM that was discovered, with the text of the file at its path
abbrev pub found_pom : World → ModulePom → ProjectPom
found_pom world m = with_text m (unwrap_or (world.by_path m.path) [])

-- so with the bytes that were discovered with it
abbrev pub with_own_text : ModulePom → ProjectPom
with_own_text m = with_text m m.bytes

abbrev pub project_poms : World → Given → Built (List ProjectPom)
project_poms world given = discovered world given >>= (λ found. Ok (map (found_pom world) found))

abbrev pub models_of : World → Given → List ProjectPom → Built (List Model)
models_of world given poms = each (λ (p : ProjectPom). effective world given (ids.Path p.path)) poms
