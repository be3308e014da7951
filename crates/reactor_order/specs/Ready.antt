-- The modules that can follow, as a set of numbers. Own words.
use Rattle.std.specs.Prelude.{◌≡◌, ℕ, ◌<◌, Bool, true, false, not, ◌&&◌, ◌==◌, Option, Some, None}
use Rattle.std.specs.Ordering.{nat_cmp}
use Rattle.std.specs.BTreeSet.{BTreeSet, contains}

abbrev pub is_in : BTreeSet ℕ → ℕ → Bool
is_in set m = contains nat_cmp set m

-- the least is taken out
abbrev pub TakesLeast : BTreeSet ℕ → BTreeSet ℕ → Option ℕ → Type 0
TakesLeast before after None = ((m : ℕ) → is_in before m ≡ false) × ((m : ℕ) → is_in after m ≡ is_in before m)
TakesLeast before after (Some m) = (is_in before m ≡ true) × ((k : ℕ) → k < m → is_in before k ≡ false) × ((k : ℕ) → is_in after k ≡ (is_in before k && not (m == k)))
