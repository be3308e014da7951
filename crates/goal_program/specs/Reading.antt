-- Reading a stream.
use Rattle.std.specs.Prelude.{◌≡◌, ℕ, ◌<◌, ◌≤◌, ◌+◌, Bool, true, false, List, [], ◌++◌, length, take, drop, Option, Some, None, option_map, IfSome}

-- so many bytes came from the front of what was left, behind those that were there; where none came, the stream has ended
pub record ReadsMore (before now : Option (List ℕ)) (room : ℕ) (old new : List ℕ) (ended : Bool) : Type 0 where
  pub count : ℕ
  pub within : count ≤ room
  pub len : length new ≡ length old + count
  pub left : now ≡ option_map (drop count) before
  pub bytes : IfSome before (λ rest. new ≡ old ++ take count rest)
  pub some : ended ≡ false → 0 < count
  pub last : ended ≡ true → IfSome before (λ rest. rest ≡ [])

-- so many bytes at most were read of a stream; what tells nothing goes on so
abbrev pub ReadsUpTo : ℕ → Option (List ℕ) → Option (List ℕ) → Type 0
ReadsUpTo most None now = now ≡ None
ReadsUpTo most (Some rest) now = (count : ℕ) × (count ≤ most) × (now ≡ Some (drop count rest))

-- the most bytes that are read of a stream: one more than a request may have
abbrev pub most_read : ℕ
most_read = 536870913
