-- Paths in a project, relative to its root folder. POM Reference, "Inheritance" and "Aggregation"; how steps are folded is an own rule.
use Rattle.std.specs.Prelude.{ℕ, Bool, true, ◌||◌, ◌-◌, nat_eq, List, [], ◌∷◌, ◌++◌, fold, flat_map, take, length, slice_get, codes, if◌then◌else◌}
use Rattle.std.specs.List.{slice_split}
use Rattle.std.specs.Option.{option_map_or}
use Rattle.std.specs.Str.{bytes_eq}

-- the steps of a path, which `/` and `\` divide
abbrev pub steps : List ℕ → List (List ℕ)
steps path = flat_map (slice_split (λ b. nat_eq b 92)) (slice_split (λ b. nat_eq b 47) path)

-- whether a path leads nowhere but up
abbrev pub is_at_top : List (List ℕ) → Bool
is_at_top done = option_map_or (λ s. bytes_eq s (codes "..")) (slice_get done (length done - 1)) true

-- one step up: the last one less, or one more where there is none to leave
abbrev pub up : List (List ℕ) → List (List ℕ)
up done = if is_at_top done then done ++ codes ".." ∷ [] else take (length done - 1) done

-- one step more: an empty one and `.` lead nowhere
abbrev pub add_step : List (List ℕ) → List ℕ → List (List ℕ)
add_step done s = if bytes_eq s [] || bytes_eq s (codes ".") then done else if bytes_eq s (codes "..") then up done else done ++ s ∷ []

-- steps with `/` between them
abbrev pub path_of : List (List ℕ) → List ℕ
path_of [] = []
path_of (s ∷ steps) = s ++ flat_map (λ t. 47 ∷ t) steps

-- a path from a folder on
unfoldable pub joined : List ℕ → List ℕ → List ℕ
joined folder path = path_of (fold add_step [] (steps folder ++ steps path))
