-- Where a POM is found: by its path in the project, and by its coordinates in the project first, then in the local repository, then
-- in the remote one. Maven Model Builder, "Model resolving"; Maven's repository layout. The limit is a project rule.
use Rattle.std.specs.Prelude.{◌≡◌, ◌+◌, ℕ, Bool, ◌&&◌, nat_lt, List, [], codes, find, length, Option, None, option_map, replicate, if◌then◌else◌}
use Rattle.std.specs.Option.{option_or}
use Rattle.std.specs.Str.{bytes_eq}
use Rattle.mvn_shared.specs.Files.{Files, file_at, is_there}
use Rattle.mvn_base.specs.FileName.{file_name}
use Rattle.mvn_base.specs.Gav.{gav_eq}
use Rattle.mvn_base.specs.Limits.{pom_limit}
use Rattle.mvn_base.specs.Names.{is_group, is_name, is_version}
use Rattle.mvn_base.specs.declared.gav.Gav.{Gav}
use Rattle.mvn_base.specs.declared.refusal.PomId.TheVariants as ids
use Rattle.pom_source.specs.Worlds.{World}
use Rattle.pom_source.specs.declared.found.Found.{Found}
use Rattle.model_resolver.specs.declared.resolver.ProjectPom.{ProjectPom}

-- what stands for a text that is too long for a POM: as many spaces as no POM has
unfoldable pub oversized : List ℕ
oversized = replicate (1 + pom_limit) 32

-- a POM's text, as far as one may be
abbrev pub within_limit : List ℕ → List ℕ
within_limit bytes = if nat_lt pom_limit (length bytes) then oversized else bytes

-- the first of the project's POMs at a path, and the first of these coordinates
abbrev pub project_at : List ProjectPom → List ℕ → Option (List ℕ)
project_at poms path = option_map (λ p. p.bytes) (find (λ p. bytes_eq p.path path) poms)

abbrev pub found_in_project : ProjectPom → Found
found_in_project p = record { pom = ids.Path p.path; bytes = p.bytes }

abbrev pub project_of : List ProjectPom → Gav → Option Found
project_of poms gav = option_map found_in_project (find (λ p. gav_eq p.gav gav) poms)

-- a POM at a path: one of the project's, or a file of the project's folder
abbrev pub pom_at : List ProjectPom → Files → List ℕ → Option (List ℕ)
pom_at poms files path = option_or (project_at poms path) (option_map within_limit (file_at files path))

-- the names of a coordinate are valid, so that it has a file
abbrev pub is_valid : Gav → Bool
is_valid gav = is_group gav.group && (is_name gav.artifact && is_version gav.version)

-- the POM of coordinates among a repository's files
abbrev pub found_in_repository : Gav → List ℕ → Found
found_in_repository gav bytes = record { pom = ids.Gav gav; bytes = within_limit bytes }

abbrev pub repository_of : Files → Gav → Option Found
repository_of files gav =
    if is_valid gav then option_map (found_in_repository gav) (file_at files (file_name gav [] (codes "pom"))) else None

-- the POM of coordinates: the project's, else the local repository's, else the remote one's
abbrev pub find_pom : List ProjectPom → (local remote : Files) → Gav → Option Found
find_pom poms local remote gav = option_or (project_of poms gav) (option_or (repository_of local gav) (repository_of remote gav))

-- a world in which POMs are found so
pub record FindsSo (poms : List ProjectPom) (tree local remote : Files) (world : World) : Type 0 where
  pub by_path : (path : List ℕ) → world.by_path path ≡ pom_at poms tree path
  pub by_gav : (gav : Gav) → world.by_gav gav ≡ find_pom poms local remote gav
  pub there : world.there ≡ is_there tree

-- the world of these files
abbrev pub world_of : List ProjectPom → (tree local remote : Files) → World
world_of poms tree local remote = record { by_path = pom_at poms tree; by_gav = find_pom poms local remote; there = is_there tree }
