-- The names of a repository's files. Maven's repository layout.
use Rattle.std.specs.Prelude.{◌≡◌, ℕ, Bool, true, not, ◌&&◌, ◌||◌, ◌==◌, nat_eq, nat_le, nat_lt, ◌-◌, List, [], ◌∷◌, ◌++◌, length, map, codes, Option, Some, None, if◌then◌else◌}
use Rattle.std.specs.List.{list_all, slice_split, slice_index_or}
use Rattle.std.specs.Cmp.Lexicographic.{pointwise}
use Rattle.mvn_base.specs.declared.gav.Gav.{Gav}
use Rattle.mvn_base.specs.Names.{is_filled, is_name, is_group, is_version}

-- a part of a group is a folder
abbrev pub folder_byte : ℕ → ℕ
folder_byte b = if b == 46 then 47 else b

-- the folder of an artifact's versions: group/artifact/
abbrev pub artifact_folder : List ℕ → List ℕ → List ℕ
artifact_folder group artifact = map folder_byte group ++ 47 ∷ artifact ++ 47 ∷ []

-- where there is a classifier: a hyphen and it
abbrev pub classifier_part : List ℕ → List ℕ
classifier_part classifier = if is_filled classifier then 45 ∷ classifier else []

-- group/artifact/version/artifact-version[-classifier].extension, with `/` for the group's dots
unfoldable pub file_name : Gav → List ℕ → List ℕ → List ℕ
file_name gav classifier extension =
    artifact_folder gav.group gav.artifact ++ gav.version ++ 47 ∷ gav.artifact ++ 45 ∷ gav.version ++ classifier_part classifier ++ 46 ∷ extension

-- the names of a coordinate are valid
pub record IsValid (gav : Gav) : Type 0 where
  pub group : is_group gav.group ≡ true
  pub artifact : is_name gav.artifact ≡ true
  pub version : is_version gav.version ≡ true

-- a classifier is empty or a valid name
abbrev pub is_classifier : List ℕ → Bool
is_classifier text = not (is_filled text) || is_name text

-- the name of a POM
abbrev pub pom_name : List ℕ → List ℕ → List ℕ → List ℕ
pom_name group artifact version = file_name (record { group = group; artifact = artifact; version = version }) [] (codes "pom")

-- the name of the list of an artifact's versions: group/artifact/versions.index
abbrev pub index_file : List ℕ → List ℕ → List ℕ
index_file group artifact = artifact_folder group artifact ++ codes "versions.index"

-- the name of the file beside another that holds its SHA-1
abbrev pub sidecar_name : List ℕ → List ℕ
sidecar_name name = name ++ codes ".sha1"

-- a digit of a digest: 0 to 9, or a to f
abbrev pub is_hex_digit : ℕ → Bool
is_hex_digit b = (nat_le 48 b && nat_le b 57) || (nat_le 97 b && nat_le b 102)

-- the digits of a SHA-256
abbrev pub is_digest : List ℕ → Bool
is_digest text = (length text == 64) && list_all is_hex_digit text

-- the name of a cache's entry, by the digest of its key
abbrev pub entry_name : List ℕ → List ℕ
entry_name digest = codes "cache/" ++ digest

-- the step before the last of a path, empty where there is none
abbrev pub step_before_last : List (List ℕ) → List ℕ
step_before_last steps = if nat_lt (length steps) 2 then [] else slice_index_or steps (length steps - 2) []

-- the version of an artifact whose POM has this name, if it is valid
unfoldable pub version_in : List ℕ → List ℕ → List ℕ → Option (List ℕ)
version_in group artifact name =
    let version = step_before_last (slice_split (λ b. b == 47) name) in
    if is_version version && pointwise nat_eq (pom_name group artifact version) name then Some version else None
