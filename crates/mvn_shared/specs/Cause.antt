-- Faults of objects outside the program, and what a call's answer says of them. Own rules.
use Rattle.std.specs.Prelude.{◌≡◌, ℕ, ◌+◌, ◌≤◌, min, Bool, true, false}

-- where a count of faults stops: the greatest number of 64 bits
abbrev pub last_count : ℕ
last_count = 18446744073709551615

-- the count has risen from before to now, or it stands at its end
pub record HasRisen (before now : ℕ) : Type 0 where
  pub no_fall : before ≤ now
  pub rise : min (before + 1) last_count ≤ now

-- the count rose by n at least from before to now, or it stands at its end
pub record RoseBy (n before now : ℕ) : Type 0 where
  pub no_fall : before ≤ now
  pub rise : min (before + n) last_count ≤ now

-- what a call does to the count: a fault raises it, and any other answer leaves it
abbrev pub HasCause : (before now : ℕ) (failed : Bool) → Type 0
HasCause before now true = HasRisen before now
HasCause before now false = now ≡ before
