-- The versions of an artifact that are available to a run: those of its modules, of the local repository, and of the remote one. POM
-- Reference, "Dependency Version Requirement Specification"; Maven's repository layout. The limit is a project rule.
use Rattle.std.specs.Prelude.{ℕ, Bool, ◌&&◌, List, [], ◌++◌, filter_map, fold, length, nat_lt, Option, None, Some, if◌then◌else◌}
use Rattle.std.specs.FinMap as map
use Rattle.std.specs.Str.{bytes_eq}
use Rattle.mvn_shared.specs.Files.{Files}
use Rattle.mvn_base.specs.Names.{is_group, is_name}
use Rattle.mvn_base.specs.Limits.{most_versions}
use Rattle.mvn_outside.specs.Versions.{versions_of}
use Rattle.model_types.specs.declared.model.Model.{Model}

-- versions, each once, ascending by bytes
abbrev pub with_version : Files → List ℕ → Files
with_version found version = map.insert found version []

unfoldable pub each_once : List (List ℕ) → List (List ℕ)
each_once versions = map.keys (fold with_version map.empty versions)

-- these, unless there are more than 4,096
abbrev pub within_most : List (List ℕ) → Option (List (List ℕ))
within_most versions = if nat_lt most_versions (length versions) then None else Some versions

-- the version of a model, if it is of this artifact
abbrev pub version_of : (group artifact : List ℕ) → Model → Option (List ℕ)
version_of group artifact m =
    if bytes_eq m.gav.group group && bytes_eq m.gav.artifact artifact then Some m.gav.version else None

-- those of which a repository has the POM; names that aren't valid have no file
abbrev pub is_artifact : (group artifact : List ℕ) → Bool
is_artifact group artifact = is_group group && is_name artifact

abbrev pub listed : Files → (group artifact : List ℕ) → List (List ℕ)
listed files group artifact = if is_artifact group artifact then versions_of files group artifact else []

-- all together, unless a repository has more than 4,096, or all together
abbrev pub joined : List (List ℕ) → (local remote : Option (List (List ℕ))) → Option (List (List ℕ))
joined own None remote = None
joined own (Some local) None = None
joined own (Some local) (Some remote) = within_most (each_once (own ++ local ++ remote))

unfoldable pub available : (local remote : Files) → List Model → (group artifact : List ℕ) → Option (List (List ℕ))
available local remote models group artifact =
    joined (filter_map (version_of group artifact) models) (within_most (listed local group artifact)) (within_most (listed remote group artifact))
