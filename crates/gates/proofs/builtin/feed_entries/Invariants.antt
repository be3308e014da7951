use Rattle.std.proofs.Common.{◌++◌, ℕ, List, flat_map, take}
use Rattle.goal_types.specs.Requests.{entry_bytes}
use Rattle.gates.proofs.builtin.feed_entries.Given as goal

-- the hasher was fed with the bytes so far
abbrev pub invariant-loop-entry : goal.invariant-loop-entry
invariant-loop-entry g l = (m : List ℕ) → g.D.Digest.holds l.fn.hasher m → g.D.Digest.holds l.hasher (m ++ flat_map (λ e. entry_bytes e.bytes) (take l.entry-index l.entries))
