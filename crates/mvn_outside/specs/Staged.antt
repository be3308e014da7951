-- What staging leaves of an area's pieces. Own rules.
use Rattle.std.specs.Prelude.{◌≡◌, ◌⊎◌, ℕ, Bool, true, false, List, Option, Some, None, option_map}
use Rattle.std.specs.FinMap as map
use Rattle.mvn_outside.specs.Pieces.{Pieces, Contents}

-- a piece with these bytes
abbrev pub staged : Option Contents → ℕ → List ℕ → Option Contents
staged told piece bytes = option_map (λ m. map.insert m piece bytes) told

-- each piece is as it was, or is new and unsealed
abbrev pub KeepsPieces : Pieces → Pieces → Type 0
KeepsPieces before now = (piece : ℕ) → (map.get now piece ≡ map.get before piece) ⊎ ((map.get before piece ≡ None) × (map.get now piece ≡ Some false))
