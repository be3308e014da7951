-- Counts of faults that rise several times.
use Rattle.std.proofs.Common.{ℕ, ◌+◌, arith}
use Rattle.mvn_shared.specs.Cause.{HasRisen, RoseBy}

-- a count that rose is one that rose by one
pub rose_by_one : (before now : ℕ) → HasRisen before now → RoseBy 1 before now
rose_by_one before now rose = record { no_fall = rose.no_fall; rise = rose.rise }

-- a rise more is one more that it rose by
pub rises_again : (n before between now : ℕ) → RoseBy n before between → HasRisen between now → RoseBy (n + 1) before now
rises_again n before between now first next = record {
  no_fall = let a = first.no_fall in let b = next.no_fall in omega arith;
  rise = let a = first.rise in let b = next.rise in omega arith;
}
