-- By what an exclusion is put and found. Project rule.
use Rattle.std.specs.Prelude.{ℕ, ◌+◌, ◌*◌, ◌%◌, ◌^◌, Bool, not, bit_and, fold, nat_eq, List}

-- a byte more
abbrev pub mixed : ℕ → ℕ → ℕ
mixed hash byte = ((hash + byte) % 2 ^ 32 * 16777619) % 2 ^ 32

-- the number of a group and an artifact
unfoldable pub hash_of : List ℕ → List ℕ → ℕ
hash_of group artifact = fold mixed (fold mixed 2166136261 group) artifact

-- a number has a bit
unfoldable pub leads_right : ℕ → ℕ → Bool
leads_right hash bit = not (nat_eq (bit_and hash bit) 0)
