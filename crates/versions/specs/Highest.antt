-- The greatest version that a requirement admits. POM Reference, "Dependency Version Requirement Specification"; the
-- first among equals is an own rule.
use Rattle.std.specs.Prelude.{◌≡◌, ℕ, ◌<◌, Bool, true, false, List, [], get_or, Option, Some, None}
use Rattle.std.specs.declared.cmp.Ordering.TheVariants.{Less}
use Rattle.std.specs.Ordering.{is_gt}
use Rattle.versions.specs.Order.{version_cmp}

-- a place, among the first so many of a list, of an admitted version that none is greater than, and the first of those
pub record IsGreatest (admitted : List ℕ → Bool) (versions : List (List ℕ)) (count place : ℕ) : Type 0 where
  pub within : place < count
  pub admits : admitted (get_or versions place []) ≡ true
  pub greatest : (i : ℕ) → i < count → admitted (get_or versions i []) ≡ true → is_gt (version_cmp (get_or versions i []) (get_or versions place [])) ≡ false
  pub first : (i : ℕ) → i < place → admitted (get_or versions i []) ≡ true → version_cmp (get_or versions i []) (get_or versions place []) ≡ Less

-- the place of the greatest admitted version among the first so many; none exactly where none is admitted
abbrev pub IsHighest : (List ℕ → Bool) → List (List ℕ) → ℕ → Option ℕ → Type 0
IsHighest admitted versions count None = (i : ℕ) → i < count → admitted (get_or versions i []) ≡ false
IsHighest admitted versions count (Some place) = IsGreatest admitted versions count place
