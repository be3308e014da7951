-- The text of an index: its versions ascending by bytes, each once, each ended by a line feed. Project rule.
use Rattle.std.specs.Prelude.{◌≡◌, ℕ, ◌≤◌, Bool, true, ◌&&◌, ◌==◌, nat_le, List, [], ◌∷◌, ◌++◌, length, Option, Some, None, if◌then◌else◌}
use Rattle.std.specs.List.{list_all, slice_split}
use Rattle.std.specs.Str.{bytes_eq, is_utf8}
use Rattle.mvn_base.specs.Limits.{most_versions}
use Rattle.mvn_base.specs.Names.{is_version}
use Rattle.version_index.specs.Sets.{IsAscending, ascends, version_set}

-- the greatest number of bytes of an index
abbrev pub most_index : ℕ
most_index = 1048576

-- a line for each version
abbrev pub version_lines : List (List ℕ) → List ℕ
version_lines [] = []
version_lines (v ∷ versions) = v ++ 10 ∷ version_lines versions

-- the text of a set of versions
abbrev pub index_text : List (List ℕ) → List ℕ
index_text versions = version_lines (version_set versions)

abbrev pub but_last : List (List ℕ) → List (List ℕ)
but_last [] = []
but_last (x ∷ []) = []
but_last (x ∷ y ∷ xs) = x ∷ but_last (y ∷ xs)

-- the lines of a text, each of which a line feed ends
abbrev pub lines : List ℕ → List (List ℕ)
lines bytes = but_last (slice_split (λ b. b == 10) bytes)

-- a version that may stand in an index: a valid one, in UTF-8
abbrev pub is_listed : List ℕ → Bool
is_listed version = is_version version && is_utf8 version

-- bytes are the index of these versions: the text of their set, and not too long
abbrev pub is_index : List ℕ → List (List ℕ) → Bool
is_index bytes versions = list_all is_listed versions && (nat_le (length bytes) most_index && bytes_eq bytes (index_text versions))

-- the versions of a valid index
abbrev pub read_index : List ℕ → Option (List (List ℕ))
read_index bytes = if is_index bytes (lines bytes) then Some (lines bytes) else None

-- lines as the versions of an index, where each may stand there and they ascend
abbrev pub of_lines : List (List ℕ) → Option (List (List ℕ))
of_lines lines = if ascends lines && list_all is_listed lines then Some lines else None

-- versions that may make an index: not too many of them, and no too long a text
abbrev pub fits_index : List (List ℕ) → Bool
fits_index versions = nat_le (length (version_set versions)) most_versions && nat_le (length (index_text versions)) most_index

-- bytes are a valid index, and these are its versions
pub record IsIndexOf (versions : List (List ℕ)) (bytes : List ℕ) : Type 0 where
  pub ascending : IsAscending versions
  pub valid : list_all is_listed versions ≡ true
  pub short : length bytes ≤ most_index
  pub text : bytes ≡ version_lines versions
