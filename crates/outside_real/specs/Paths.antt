-- Paths of the system. Own rules.
use Rattle.std.specs.Prelude.{ℕ, Bool, not, ◌&&◌, ◌||◌, ◌==◌, nat_eq, List, ◌∷◌, ◌++◌, length, codes, if◌then◌else◌}
use Rattle.std.specs.List.{list_all, slice_split, starts_with}
use Rattle.std.specs.Cmp.Lexicographic.{pointwise}

abbrev pub is_slash : ℕ → Bool
is_slash b = b == 47

-- a step that leads to a name below its folder
unfoldable pub is_step : List ℕ → Bool
is_step step = not (length step == 0) && not (pointwise nat_eq step (codes ".")) && not (pointwise nat_eq step (codes ".."))

-- the path leads nowhere but below its folder
abbrev pub leads_below : List ℕ → Bool
leads_below path = list_all is_step (slice_split is_slash path)

-- the staging folder, or a path below it
unfoldable pub is_in_staging : List ℕ → Bool
is_in_staging path = pointwise nat_eq path (codes ".staging") || starts_with nat_eq path (codes ".staging/")

-- the path stays in the repository and out of its staging folder
abbrev pub is_inside : List ℕ → Bool
is_inside path = leads_below path && not (is_in_staging path)
