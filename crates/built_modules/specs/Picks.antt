-- Items by their places.
use Rattle.std.specs.Prelude.{◌≡◌, ℕ, List, get_or, map, slice_get, Option, None, Some}

-- the item at a place of a list where items may have been taken
abbrev pub slot_at : {A : Type 0} → List (Option A) → ℕ → Option A
slot_at slots place = get_or slots place None

-- the items of a list at some places, in the order of these
abbrev pub ArePicked : {A : Type 0} → List A → List ℕ → List A → Type 0
ArePicked items places list = map Some list ≡ map (slice_get items) places
