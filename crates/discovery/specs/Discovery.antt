-- The POMs of a project: the root's, and those of the modules that POMs list, each before its own modules. Guide to Working with
-- Multiple Modules; POM Reference, "Aggregation". The order of refusals, and that 1,024 POMs are enough, are project rules.
use Rattle.std.specs.Prelude.{ℕ, zero, suc, Bool, true, false, List, [], ◌∷◌, ◌++◌, map, codes, Option, None, Some, Ok, Err, if◌then◌else◌}
use Rattle.std.specs.Str.{bytes_eq}
use Rattle.mvn_base.specs.Names.{has_expression}
use Rattle.mvn_base.specs.declared.refusal.PomId.TheVariants as ids
use Rattle.mvn_base.specs.declared.rule.Rule.{Rule}
use Rattle.mvn_base.specs.declared.rule.Rule.TheVariants.{AggregatorPackaging, DuplicateProject, ModuleNotFound, TooLarge, Unresolved}
use Rattle.mvn_base.specs.Limits.{most_modules}
use Rattle.model_types.specs.declared.model.RawModel.{RawModel}
use Rattle.mvn_base.specs.Paths.{joined}
use Rattle.profiles.specs.Activation.{folder_of}
use Rattle.pom_source.specs.Answers.{Built, ◌>>=◌}
use Rattle.pom_source.specs.Refusals.{text_refused}
use Rattle.pom_source.specs.Worlds.{World}
use Rattle.pom_source.specs.declared.found.Given.{Given}
use Rattle.lineage.specs.Reading.{read, with_profiles}
use Rattle.discovery.specs.declared.pom.Listed.{Listed}
use Rattle.discovery.specs.declared.pom.ModulePom.{ModulePom}
use Rattle.discovery.specs.declared.progress.Progress.{Progress}
use Rattle.discovery.specs.Met.{is_met}

-- the POM by which a project begins, and a folder's
abbrev pub pom_xml : List ℕ
pom_xml = codes "pom.xml"

-- a refusal of the POM at a path, which names a text
abbrev pub refuse : {A : Type 0} → List ℕ → Rule → List ℕ → Built A
refuse path rule text = Err (text_refused (ids.Path path) rule text)

-- a POM: where it stands, the bytes of its file, and what they say
abbrev pub pom_of : List ℕ → List ℕ → RawModel → ModulePom
pom_of path bytes raw = record { path = path; raw = raw; bytes = bytes }

abbrev pub read_pom : List ℕ → List ℕ → Built ModulePom
read_pom path bytes = read (ids.Path path) bytes >>= (λ raw. Ok (pom_of path bytes raw))

-- the path that a module's text leads to, from the folder of the POM that lists it on
abbrev pub path_of : Listed → Built (List ℕ)
path_of l = if has_expression l.text then refuse l.by Unresolved l.text else Ok (joined (folder_of l.by) l.text)

-- a module that is one too many
abbrev pub one_too_many : Listed → List ℕ → List ℕ → Built ModulePom
one_too_many l path bytes = refuse l.by TooLarge (codes "modules")

-- how a POM that is found is taken up: it is read, or there is no room for it
abbrev pub as_taken : Bool → Listed → List ℕ → List ℕ → Built ModulePom
as_taken true l = one_too_many l
as_taken false l = read_pom

-- the modules that a POM lists
abbrev pub listed : List ℕ → List (List ℕ) → List Listed
listed by modules = map (λ text. record { by = by; text = text }) modules

-- a POM that lists any has the packaging `pom`
abbrev pub aggregated : ModulePom → List Listed → Built (List Listed)
aggregated pom [] = Ok []
aggregated pom (l ∷ modules) =
    if bytes_eq pom.raw.coordinates.packaging (codes "pom") then Ok (l ∷ modules)
    else refuse pom.path AggregatorPackaging pom.raw.coordinates.packaging

-- a module leads to a POM, or to none
abbrev pub or_missing : Listed → Option ModulePom → Built ModulePom
or_missing l None = refuse l.by ModuleNotFound l.text
or_missing l (Some pom) = Ok pom

-- the file at a path, if there is one, as it is taken up
abbrev pub taken_up : (List ℕ → List ℕ → Built ModulePom) → List ℕ → Option (List ℕ) → Built (Option ModulePom)
taken_up up path None = Ok None
taken_up up path (Some bytes) = up path bytes >>= (λ pom. Ok (Some pom))

module _ (world : World) where
  -- a POM at a path, if one is there that wasn't met
  abbrev pub new_at : (List ℕ → List ℕ → Built ModulePom) → Listed → List ModulePom → List ℕ → Built (Option ModulePom)
  new_at up l found path =
      if is_met found path then refuse l.by DuplicateProject path else taken_up up path (world.by_path path)

  abbrev pub at_last : (List ℕ → List ℕ → Built ModulePom) → Listed → List ModulePom → List ℕ → Built ModulePom
  at_last up l found path = new_at up l found path >>= or_missing l

  abbrev pub or_at : (List ℕ → List ℕ → Built ModulePom) → Listed → List ModulePom → List ℕ → Option ModulePom → Built ModulePom
  or_at up l found path None = at_last up l found path
  or_at up l found path (Some pom) = Ok pom

  abbrev pub at_either : (List ℕ → List ℕ → Built ModulePom) → Listed → List ModulePom → List ℕ → Built ModulePom
  at_either up l found path = new_at up l found (joined path pom_xml) >>= or_at up l found path

  -- the POM that a module leads to: `pom.xml` in the folder of that name, or else the file
  abbrev pub named : (List ℕ → List ℕ → Built ModulePom) → Listed → List ModulePom → Built ModulePom
  named up l found = path_of l >>= at_either up l found

  -- the POM by which the project begins
  abbrev pub root : Built ModulePom
  root = taken_up read_pom pom_xml (world.by_path pom_xml) >>= or_missing (record { by = pom_xml; text = pom_xml })

  -- what there is if no more POMs may come: a module that waits is refused
  abbrev pub with_none : List ModulePom → List Listed → Built (List ModulePom)
  with_none found [] = Ok found
  with_none found (l ∷ waiting) = named (one_too_many l) l found >>= (λ pom. Ok (found ++ pom ∷ []))

  module _ (given : Given) where
    -- the modules of a POM, with those of its active profiles
    abbrev pub listed_by : ModulePom → Built (List Listed)
    listed_by pom = aggregated pom (listed pom.path (with_profiles given world.there pom.raw).base.modules)

    -- one POM more, whose modules come before those that wait
    abbrev pub with_pom : List ModulePom → List Listed → ModulePom → Built Progress
    with_pom found waiting pom =
        listed_by pom >>= (λ modules. Ok (record { found = found ++ pom ∷ []; waiting = modules ++ waiting }))

    abbrev pub with_module : List ModulePom → List Listed → Listed → Built Progress
    with_module found waiting l = named read_pom l found >>= with_pom found waiting

    -- what is found, with the POMs of the modules that wait; so many may come
    unfoldable pub collected : ℕ → List ModulePom → List Listed → Built (List ModulePom)
    collected zero found waiting = with_none found waiting
    collected (suc room) found [] = Ok found
    collected (suc room) found (l ∷ waiting) =
        with_module found waiting l >>= (λ p. collected room p.found p.waiting)

    -- the POM by which the project begins, and the modules that it lists
    abbrev pub begun : Built Progress
    begun = root >>= with_pom [] []

    -- all POMs of the project
    abbrev pub discovered : Built (List ModulePom)
    discovered = begun >>= (λ p. collected most_modules p.found p.waiting)
