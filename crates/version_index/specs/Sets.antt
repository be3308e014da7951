-- Sets of versions: ascending by their bytes, each once. Project rule.
use Rattle.std.specs.Prelude.{◌≡◌, ℕ, Bool, true, ◌&&◌, List, [], ◌∷◌, fold}
use Rattle.std.specs.List.{list_any}
use Rattle.std.specs.declared.cmp.Ordering.{Ordering}
use Rattle.std.specs.declared.cmp.Ordering.TheVariants.{Less, Equal, Greater}
use Rattle.std.specs.Ordering.{eq_by_cmp, is_lt, nat_cmp}
use Rattle.std.specs.Cmp.Lexicographic.{slice_cmp}

-- what stands from a version x on, with v in it; `more` is the rest with v in it
abbrev pub put_by : Ordering → (v x : List ℕ) → (rest more : List (List ℕ)) → List (List ℕ)
put_by Less v x rest more = v ∷ x ∷ rest
put_by Equal v x rest more = x ∷ rest
put_by Greater v x rest more = x ∷ more

-- versions with one more, before the first that it is below, where it isn't there
abbrev pub put_version : List (List ℕ) → List ℕ → List (List ℕ)
put_version [] v = v ∷ []
put_version (x ∷ xs) v = put_by (slice_cmp nat_cmp v x) v x xs (put_version xs v)

-- the set of these versions
abbrev pub version_set : List (List ℕ) → List (List ℕ)
version_set versions = fold put_version [] versions

-- a version is one of these
abbrev pub has_version : List ℕ → List (List ℕ) → Bool
has_version v versions = list_any (eq_by_cmp (slice_cmp nat_cmp) v) versions

-- a version is below each of these
abbrev pub IsUnder : List ℕ → List (List ℕ) → Type 0
IsUnder v [] = Unit {0}
IsUnder v (x ∷ xs) = (slice_cmp nat_cmp v x ≡ Less) × IsUnder v xs

-- versions ascend, each once
abbrev pub IsAscending : List (List ℕ) → Type 0
IsAscending [] = Unit {0}
IsAscending (x ∷ xs) = IsUnder x xs × IsAscending xs

-- each is below the next
abbrev pub ascends : List (List ℕ) → Bool
ascends [] = true
ascends (x ∷ []) = true
ascends (x ∷ y ∷ xs) = is_lt (slice_cmp nat_cmp x y) && ascends (y ∷ xs)
