-- What an exclusion names. POM Reference, "Exclusions".
use Rattle.std.specs.Prelude.{ℕ, Bool, ◌&&◌, ◌||◌, List, codes}
use Rattle.std.specs.List.{list_any}
use Rattle.std.specs.Str.{bytes_eq}
use Rattle.model_types.specs.declared.dependency.Dependency.{Dependency}
use Rattle.model_types.specs.declared.dependency.Exclusion.{Exclusion}

-- an exclusion's group or artifact names a text, and `*` any
abbrev pub is_named : List ℕ → List ℕ → Bool
is_named pattern name = bytes_eq pattern (codes "*") || bytes_eq pattern name

abbrev pub excludes : Dependency → Exclusion → Bool
excludes d e = is_named e.group d.group && is_named e.artifact d.artifact

abbrev pub is_excluded : List Exclusion → Dependency → Bool
is_excluded cut d = list_any (excludes d) cut
