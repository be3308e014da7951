use Rattle.std.proofs.Common.{◌++◌, ℕ, List, flat_map, take}
use Rattle.goal_types.specs.Requests.{entry_bytes}
use Rattle.gates.proofs.builtin.feed_sources.Given as goal

-- the hasher was fed with the bytes so far
abbrev pub invariant-loop-file : goal.invariant-loop-file
invariant-loop-file g l = (m : List ℕ) → g.D.Digest.holds l.fn.hasher m → g.D.Digest.holds l.hasher (m ++ flat_map (λ s. s.bytes) (take l.file-index l.sources))
