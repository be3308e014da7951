use Rattle.std.proofs.Common.{◌≡◌, ◌+◌, ℕ, drop, fold, length}
use Rattle.classpaths.specs.declared.resolution.Resolution.{Resolution}
use Rattle.generated.specs.EntryCounts.{entries, entries_of}
use Rattle.generated.proofs.counts.entries_of.Given as goal

-- those so far, and those of what is left
abbrev pub invariant-loop-resolution : goal.invariant-loop-resolution
invariant-loop-resolution l = fold (λ (n : ℕ) (r : Resolution). n + entries r) (length l.places.items) (drop l.resolution-index l.resolutions) ≡ entries_of l.resolutions
