-- The effective model of a POM, in ten steps, or the first refusal. Maven Model Builder, "Model building"; POM Reference; Introduction to
-- the Dependency Mechanism. That 32 POMs are built at once at most, and the order of refusals, are project rules.
--
-- 1, 2: the POM and its parents, each with its profiles, and what is inherited. 3: expressions and folders. 4, 5: managed plugins and
-- bound goals. 6: a POM read by coordinates loses what isn't transitive. 7: imports. 8: management. 9: scopes. 10: what is checked in
-- the end. Steps 6, 8 and 9 refuse nothing; they are `model_of`.
use Rattle.std.specs.Prelude.{ℕ, zero, suc, List, [], ◌∷◌, ◌++◌, Option, None, Some, Ok, Err, if◌then◌else◌}
use Rattle.mvn_base.specs.declared.gav.Gav.{Gav}
use Rattle.mvn_base.specs.declared.refusal.PomId.{PomId}
use Rattle.mvn_base.specs.declared.refusal.PomId.TheVariants as ids
use Rattle.mvn_base.specs.declared.rule.Rule.TheVariants.{ImportCycle, ImportNotFound}
use Rattle.model_types.specs.declared.build.BuildBase.{BuildBase}
use Rattle.model_types.specs.declared.dependency.Dependency.{Dependency}
use Rattle.model_types.specs.declared.model.Model.{Model}
use Rattle.model_types.specs.declared.model.RawModel.{RawModel}
use Rattle.managed_deps.specs.Managed.{is_import}
use Rattle.pom_source.specs.Answers.{Built, ◌>>=◌}
use Rattle.pom_source.specs.Refusals.{gav_refused}
use Rattle.pom_source.specs.Worlds.{World}
use Rattle.pom_source.specs.declared.fault.BuildFault.TheVariants.{Absent}
use Rattle.pom_source.specs.declared.found.Found.{Found}
use Rattle.pom_source.specs.declared.found.Given.{Given}
use Rattle.lineage.specs.Beside.{read_at}
use Rattle.lineage.specs.Lineage.{is_in, lineage, next_poms}
use Rattle.lineage.specs.Reading.{read}
use Rattle.model_steps.specs.Assembly.{model_of}
use Rattle.model_steps.specs.Building.{built}
use Rattle.model_steps.specs.Folders.{filled}
use Rattle.model_steps.specs.Imports.{import_gav}
use Rattle.model_steps.specs.Validation.{checked}

-- an imported POM: not there, being built already, or found
abbrev pub met_import : PomId → List PomId → Gav → Option Found → Built Found
met_import pom building gav None = Err (gav_refused pom ImportNotFound gav)
met_import pom building gav (Some found) =
    if is_in found.pom building then Err (gav_refused pom ImportCycle gav) else Ok found

-- the entries that a managed one stands for, if it is an import
abbrev pub entry : PomId → (Gav → Built (List Dependency)) → Dependency → Built (List (List Dependency))
entry pom up d =
    if is_import d then import_gav pom d >>= (λ gav. up gav >>= (λ entries. Ok (entries ∷ []))) else Ok []

-- and those of all imports, in order
abbrev pub imports_from : PomId → (Gav → Built (List Dependency)) → List (List Dependency) → List Dependency
    → Built (List (List Dependency))
imports_from pom up done [] = Ok done
imports_from pom up done (d ∷ ds) = entry pom up d >>= (λ lists. imports_from pom up (done ++ lists) ds)

-- what a model manages
abbrev pub managed_of : Built Model → Built (List Dependency)
managed_of said = said >>= (λ model. Ok model.base.managed)

-- steps 6 to 10, but for the imports themselves
abbrev pub ended : RawModel → BuildBase → List (List Dependency) → Built Model
ended full base imports = checked (model_of full base imports)

-- the POM that is asked for
abbrev pub if_there : Option RawModel → Built RawModel
if_there None = Err Absent
if_there (Some raw) = Ok raw

abbrev pub read_found : Option Found → Built RawModel
read_found None = Err Absent
read_found (Some found) = read found.pom found.bytes

module _ (world : World) where
  abbrev pub wanted : PomId → List PomId → Gav → Built Found
  wanted pom building gav = met_import pom building gav (world.by_gav gav)

  abbrev pub asked_path : List ℕ → Built RawModel
  asked_path path = read_at world path >>= if_there

  abbrev pub asked : PomId → Built RawModel
  asked (ids.Path path) = asked_path path
  asked (ids.Gav gav) = read_found (world.by_gav gav)

  module _ (given : Given) where
    -- steps 1 to 3
    abbrev pub full : RawModel → Built RawModel
    full raw = lineage world given raw >>= (λ joined. filled given joined.model)

    -- all steps, with what imports come to
    abbrev pub whole : (Gav → Built (List Dependency)) → RawModel → Built Model
    whole up raw =
        full raw >>= (λ model. built model >>= (λ base.
        imports_from raw.pom up [] model.base.managed >>= (λ imports. ended model base imports)))

    -- what an imported POM manages, that was found
    abbrev pub import_on : (PomId → List PomId → Gav → Built (List Dependency)) → List PomId → Found → Built (List Dependency)
    import_on up building found =
        read found.pom found.bytes >>= (λ raw. managed_of (whole (up raw.pom (next_poms building raw.pom)) raw))

    abbrev pub import_found : (PomId → List PomId → Gav → Built (List Dependency)) → PomId → List PomId → Gav → Built (List Dependency)
    import_found up pom building gav = wanted pom building gav >>= import_on up building

    -- what the POM of an import manages; as many POMs may be built besides
    unfoldable pub imported : ℕ → PomId → List PomId → Gav → Built (List Dependency)
    imported zero pom building gav = Err (gav_refused pom ImportCycle gav)
    imported (suc left) pom building gav = import_found (imported left) pom building gav

    -- the effective model of a POM
    abbrev pub effective : PomId → Built Model
    effective pom = asked pom >>= (λ raw. whole (imported 31 raw.pom (raw.pom ∷ [])) raw)
