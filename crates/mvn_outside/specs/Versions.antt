-- The versions of an artifact in a repository. Repository layout of Maven.
use Rattle.std.specs.Prelude.{◌≡◌, ℕ, ◌<◌, ◌≤◌, List, length, Result, Ok, Err}
use Rattle.std.specs.List.{filter_map}
use Rattle.std.specs.FinMap as map
use Rattle.mvn_shared.specs.Files.{Files}
use Rattle.mvn_base.specs.FileName.{version_in}
use Rattle.mvn_base.specs.Limits.{most_versions}
use Rattle.mvn_outside.specs.declared.fault.ListFault.{ListFault}
use Rattle.mvn_outside.specs.declared.fault.ListFault.TheVariants as list

-- the valid versions whose POMs are there, in the order of the POMs' names
abbrev pub versions_of : Files → List ℕ → List ℕ → List (List ℕ)
versions_of files group artifact = filter_map (version_in group artifact) (map.keys files)

-- a listing of these: all of them, or too many exactly where there are more
abbrev pub ListsAll : List (List ℕ) → Result (List (List ℕ)) ListFault → Type 0
ListsAll versions (Ok found) = (found ≡ versions) × (length found ≤ most_versions)
ListsAll versions (Err list.TooMany) = most_versions < length versions
ListsAll versions (Err list.Failed) = Unit {0}
ListsAll versions (Err list.Memory) = Unit {0}

-- a listing of an artifact's versions
abbrev pub ListsVersions : Files → List ℕ → List ℕ → Result (List (List ℕ)) ListFault → Type 0
ListsVersions files group artifact result = ListsAll (versions_of files group artifact) result
