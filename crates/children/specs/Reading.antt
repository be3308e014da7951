-- What a read gives of the bytes that are left. Own rule.
use Rattle.std.specs.Prelude.{◌≡◌, ℕ, ◌<◌, List, [], length, take}

-- the first bytes of a slice are so many from the front of what is left; where the slice isn't empty, none come at the end alone
pub record IsFront (rest into : List ℕ) (count : ℕ) : Type 0 where
  pub bytes : take count into ≡ take count rest
  pub last : 0 < length into → count ≡ 0 → rest ≡ []
