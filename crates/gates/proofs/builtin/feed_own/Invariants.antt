use Rattle.std.proofs.Common.{◌++◌, ℕ, List, flat_map, take}
use Rattle.goal_types.specs.Requests.{entry_bytes}
use Rattle.gates.proofs.builtin.feed_own.Given as goal

-- the hasher was fed with the bytes so far
abbrev pub invariant-loop-output : goal.invariant-loop-output
invariant-loop-output g l = (m : List ℕ) → g.D.Digest.holds l.fn.hasher m → g.D.Digest.holds l.hasher (m ++ flat_map (λ o. o.bytes) (take l.output-index l.own))
