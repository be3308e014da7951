-- The pieces of a staging area. Own rules.
use Rattle.std.specs.Prelude.{ℕ, Bool, List, [], ◌++◌, Option, option_map, unwrap_or}
use Rattle.std.specs.Ordering.{nat_cmp}
use Rattle.std.specs.FinMap as map

-- the pieces that are there, and whether each is sealed
abbrev pub Pieces : Type 0
Pieces = map.FinMap nat_cmp Bool

-- their bytes
abbrev pub Contents : Type 0
Contents = map.FinMap nat_cmp (List ℕ)

-- a new piece without bytes
abbrev pub begun : Option Contents → ℕ → Option Contents
begun told piece = option_map (λ m. map.insert m piece []) told

-- more bytes behind those of a piece
abbrev pub extended : Option Contents → ℕ → List ℕ → Option Contents
extended told piece more = option_map (λ m. map.insert m piece (unwrap_or (map.get m piece) [] ++ more)) told

abbrev pub removed : Option Contents → ℕ → Option Contents
removed told piece = option_map (λ m. map.remove m piece) told

abbrev pub emptied : Option Contents → Option Contents
emptied told = option_map (λ m. map.empty) told
