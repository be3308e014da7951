-- What the coordinates of a module lead to that isn't known by them in its project.
use Rattle.std.proofs.Common.{◌≡◌, ℕ, List, [], ◌∷◌, codes, Option, Some, None, option_map, ap}
use Rattle.std.specs.Option.{option_or}
use Rattle.mvn_shared.specs.Files.{Files, file_at}
use Rattle.mvn_base.specs.FileName.{file_name}
use Rattle.mvn_base.specs.Names.{is_group, is_name, is_name_byte, is_version, is_version_byte}
use Rattle.mvn_base.specs.declared.gav.Gav.{Gav}
use Rattle.model_resolver.specs.Finding.{find_pom, found_in_repository}
use Rattle.model_resolver.specs.declared.resolver.ProjectPom.{ProjectPom}
use Rattle.call_laws.specs.Samples.{named, pom}

abbrev gav : Gav
gav = named (codes "a") (codes "1")

abbrev poms : List ProjectPom
poms = pom (codes "a") (codes "${v}") ∷ []

-- before it is installed, to nothing
pub nothing_before : (start : Files) → file_at start (codes "g/a/1/a-1.pom") ≡ None → find_pom poms start start gav ≡ None
unfolding file_name is_group is_name is_name_byte is_version is_version_byte
nothing_before start none = ap (λ (o : Option (List ℕ)). option_or (option_map (found_in_repository gav) o) (option_map (found_in_repository gav) o)) none

-- and behind that to its file
pub found_behind : (start files : Files) (bytes : List ℕ) → file_at files (codes "g/a/1/a-1.pom") ≡ Some bytes → find_pom poms files start gav ≡ Some (found_in_repository gav bytes)
unfolding file_name is_group is_name is_name_byte is_version is_version_byte
found_behind start files bytes some = ap (λ (o : Option (List ℕ)). option_or (option_map (found_in_repository gav) o) (option_map (found_in_repository gav) (file_at start (file_name gav [] (codes "pom"))))) some
