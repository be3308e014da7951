-- A number that stands still past the last character. Own rule.
use Rattle.std.specs.Prelude.{◌≡◌, ℕ, ◌≤◌}

-- the value that is kept is the whole number, or both are past the last character
pub data Keeps (value whole : ℕ) : Type 0 where
  exact : value ≡ whole → Keeps value whole
  past : 1114112 ≤ value → 1114112 ≤ whole → Keeps value whole
