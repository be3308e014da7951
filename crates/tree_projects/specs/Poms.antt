-- What POMs in memory hold, and the worlds that they fit.
use Rattle.std.specs.Prelude.{◌≡◌, ℕ, List, Option, Some, if◌then◌else◌}
use Rattle.std.specs.HashMap.{get}
use Rattle.mvn_shared.specs.Files.{Files, file_at, is_there}
use Rattle.mvn_base.specs.declared.gav.Gav.{Gav}
use Rattle.pom_source.specs.Worlds.{World}
use Rattle.pom_source.specs.declared.found.Found.{Found}
use Rattle.mvn_base.specs.Gav.{gav_eq}
use Rattle.tree_projects.specs.declared.poms.MemPoms.{MemPoms}

-- the files of the project
abbrev pub files_in : {F : Type 0} → MemPoms F → Files
files_in poms = poms.files

-- the POM that is found under coordinates
abbrev pub found_in : {F : Type 0} → MemPoms F → Gav → Option Found
found_in poms gav = get gav_eq poms.found gav

-- and what says which calls fail
abbrev pub calls_in : {F : Type 0} → MemPoms F → F
calls_in poms = poms.calls

-- one POM more under coordinates, in place of another
abbrev pub with_found : (Gav → Option Found) → Gav → Found → Gav → Option Found
with_found found gav new other = if gav_eq gav other then Some new else found other

-- a world with these POMs, by path and by coordinates, and no other
pub record Fits (files : Files) (found : Gav → Option Found) (world : World) : Type 0 where
  pub by_path : (path : List ℕ) → world.by_path path ≡ file_at files path
  pub by_gav : (gav : Gav) → world.by_gav gav ≡ found gav
  pub there : (path : List ℕ) → world.there path ≡ is_there files path
