-- The POM that is looked for first as a parent: in the project, by a path from the child's folder on. POM Reference,
-- "Inheritance"; if its coordinates aren't the parent's, the parent is looked for by coordinates.
use Rattle.std.specs.Prelude.{ℕ, List, [], ◌∷◌, codes, Option, None, Some, Ok, unwrap_or, if◌then◌else◌}
use Rattle.std.specs.Option.{option_or}
use Rattle.mvn_base.specs.Gav.{gav_eq}
use Rattle.mvn_base.specs.declared.gav.Gav.{Gav}
use Rattle.mvn_base.specs.declared.refusal.PomId.{PomId}
use Rattle.mvn_base.specs.declared.refusal.PomId.TheVariants as ids
use Rattle.model_types.specs.declared.model.Parent.{Parent}
use Rattle.model_types.specs.declared.model.RawModel.{RawModel}
use Rattle.mvn_base.specs.Paths.{joined}
use Rattle.profiles.specs.Activation.{folder_of}
use Rattle.pom_source.specs.Answers.{Built, ◌>>=◌}
use Rattle.pom_source.specs.Worlds.{World}
use Rattle.lineage.specs.Reading.{read_file}
use Rattle.lineage.specs.declared.origin.Origin.{Origin}
use Rattle.lineage.specs.declared.origin.Origin.TheVariants.{Beside, Elsewhere}

abbrev pub parent_group : Option Parent → Option (List ℕ)
parent_group (Some parent) = Some parent.gav.group
parent_group None = None

abbrev pub parent_version : Option Parent → Option (List ℕ)
parent_version (Some parent) = Some parent.gav.version
parent_version None = None

-- the coordinates of a POM as it says them: its own, or else its parent's
unfoldable pub raw_gav : RawModel → Gav
raw_gav raw = record {
  group = unwrap_or (option_or raw.coordinates.group (parent_group raw.parent)) [];
  artifact = raw.coordinates.artifact;
  version = unwrap_or (option_or raw.coordinates.version (parent_version raw.parent)) [];
}

-- the POM that was looked for at a path, if its coordinates are these, or else the coordinates
abbrev pub of_gav : Gav → List ℕ → Option RawModel → Origin
of_gav gav path None = Elsewhere gav
of_gav gav path (Some raw) = if gav_eq (raw_gav raw) gav then Beside path raw else Elsewhere gav

module _ (world : World) where
  -- the POM at a path of the project
  abbrev pub read_at : List ℕ → Built (Option RawModel)
  read_at path = read_file (ids.Path path) (world.by_path path)

  -- the POM at a path
  abbrev pub at_second : Gav → List ℕ → Built Origin
  at_second gav path = read_at path >>= (λ found. Ok (of_gav gav path found))

  -- the first of two paths at which a POM is
  abbrev pub or_at : Gav → List ℕ → List ℕ → Option RawModel → Built Origin
  or_at gav first second (Some raw) = Ok (of_gav gav first (Some raw))
  or_at gav first second None = at_second gav second

  abbrev pub at_either : Gav → List ℕ → List ℕ → Built Origin
  at_either gav first second = read_at first >>= or_at gav first second

  -- `pom.xml` in the folder that a path names, or else the file that it names
  abbrev pub at_path : Gav → List ℕ → Built Origin
  at_path gav path = at_either gav (joined path (codes "pom.xml")) path

  -- where a parent comes from: in the project from its child's folder on, unless the path is empty; else by its coordinates
  abbrev pub origin_from : List ℕ → Gav → List ℕ → Built Origin
  origin_from child gav [] = Ok (Elsewhere gav)
  origin_from child gav (b ∷ path) = at_path gav (joined (folder_of child) (b ∷ path))

  unfoldable pub found_origin : PomId → Parent → Built Origin
  found_origin (ids.Path child) parent = origin_from child parent.gav parent.relative_path
  found_origin (ids.Gav child) parent = Ok (Elsewhere parent.gav)
