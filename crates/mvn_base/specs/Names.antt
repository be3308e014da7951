-- Which texts may name a group, an artifact or a version. POM Reference, "Maven Coordinates"; the bytes are an own rule.
use Rattle.std.specs.Prelude.{ℕ, Bool, false, not, ◌&&◌, ◌||◌, ◌==◌, nat_lt, List, [], ◌∷◌, length, codes}
use Rattle.std.specs.List.{list_all, list_any, slice_split}
use Rattle.std.specs.Char.{is_ascii_alphanumeric}

-- an ASCII letter or digit, `_`, `-` or `.`
unfoldable pub is_name_byte : ℕ → Bool
is_name_byte b = is_ascii_alphanumeric b || b == 95 || b == 45 || b == 46

-- `.` or `..`, which as a step of a path leads elsewhere
abbrev pub is_dots : List ℕ → Bool
is_dots (a ∷ []) = a == 46
is_dots (a ∷ b ∷ []) = (a == 46) && (b == 46)
is_dots text = false

-- what stands between the parts of a group
abbrev pub is_dot : ℕ → Bool
is_dot b = b == 46

-- not empty
abbrev pub is_filled : List ℕ → Bool
is_filled text = not (length text == 0)

-- the name of an artifact or a classifier
unfoldable pub is_name : List ℕ → Bool
is_name text = is_filled text && not (is_dots text) && list_all is_name_byte text

-- the name of a group: a name with no empty part between its dots
unfoldable pub is_group : List ℕ → Bool
is_group text = is_name text && list_all is_filled (slice_split is_dot text)

-- above 0x20, and none of \ / : " < > | ? * [ ] ( ) ,
unfoldable pub is_version_byte : ℕ → Bool
is_version_byte b = nat_lt 32 b && not (list_any (λ c. c == b) (codes "\\/:\"<>|?*[](),"))

-- `${` stands somewhere
abbrev pub has_expression : List ℕ → Bool
has_expression [] = false
has_expression (a ∷ []) = false
has_expression (a ∷ b ∷ text) = ((a == 36) && (b == 123)) || has_expression (b ∷ text)

unfoldable pub is_version : List ℕ → Bool
is_version text = is_filled text && not (is_dots text) && list_all is_version_byte text && not (has_expression text)
