-- The order of a forest, whose places each stand below an earlier one or below none.
use Rattle.std.specs.Prelude.{◌≡◌, ℕ, zero, suc, ◌+◌, ◌<◌, Bool, true, false, ◌==◌, List, [], ◌∷◌, drop, flat_map, get_or, length, set, slice_get, Option, Some, None, if◌then◌else◌}

-- a place stands below a given one, or below none
abbrev pub stands_below : Option ℕ → Option ℕ → Bool
stands_below None None = true
stands_below None (Some place) = false
stands_below (Some place) None = false
stands_below (Some place) (Some other) = place == other

-- the places that do, in order
abbrev pub below_from : Option ℕ → ℕ → List (Option ℕ) → List ℕ
below_from place at [] = []
below_from place at (o ∷ above) =
    if stands_below place o then at ∷ below_from place (at + 1) above else below_from place (at + 1) above

abbrev pub below : Option ℕ → List (Option ℕ) → List ℕ
below place above = below_from place 0 above

-- a place, and behind it each that stands below it with its own tree, to a depth
abbrev pub tree : List (Option ℕ) → ℕ → ℕ → List ℕ
tree above zero place = []
tree above (suc depth) place = place ∷ flat_map (tree above depth) (below (Some place) above)

-- the trees of the places that stand below none; none is deeper than there are places
abbrev pub preorder : List (Option ℕ) → List ℕ
preorder above = flat_map (tree above (suc (length above))) (below None above)

-- each stands below an earlier one
abbrev pub Ascends : List (Option ℕ) → Type 0
Ascends above = (place parent : ℕ) → slice_get above place ≡ Some (Some parent) → parent < place

-- What follows is said of the search alone: what a place stands below.
abbrev pub parent_at : List (Option ℕ) → ℕ → Option ℕ
parent_at above place = get_or above place None

-- the places behind one that stand below what it stands below
abbrev pub behind : List (Option ℕ) → ℕ → List ℕ
behind above place = below_from (parent_at above place) (place + 1) (drop (place + 1) above)

-- and that place before them
abbrev pub onward : List (Option ℕ) → Option ℕ → List ℕ
onward above None = []
onward above (Some place) = place ∷ behind above place

-- the first of those that stand below a place, or below none
abbrev pub head : Option ℕ → List (Option ℕ) → Option ℕ → Option ℕ
head top first None = top
head top first (Some place) = get_or first place None

-- another one is the first of those below none, if it stands there
abbrev pub top_with : Option ℕ → Option ℕ → ℕ → Option ℕ
top_with top None place = Some place
top_with top (Some parent) place = top

-- and of those below a place
abbrev pub first_with : List (Option ℕ) → Option ℕ → ℕ → List (Option ℕ)
first_with first None place = first
first_with first (Some parent) place = set first parent (Some place)

-- from each link on there is all that it leads to
pub record AreLinks (above : List (Option ℕ)) (top : Option ℕ) (first next : List (Option ℕ)) : Type 0 where
  pub tops : onward above top ≡ below None above
  pub firsts : (place : ℕ) → onward above (get_or first place None) ≡ below (Some place) above
  pub nexts : (place : ℕ) → onward above (get_or next place None) ≡ behind above place
