use Rattle.std.proofs.Common.{◌≡◌, ◌++◌, flat_map, drop}
use Rattle.goal_types.proofs.request.push_sources.Given as goal

-- the bytes so far, and those of what is left
abbrev pub invariant-loop-source : goal.invariant-loop-source
invariant-loop-source l = l.bytes.items ++ flat_map (λ s. s.bytes) (drop l.source-index l.sources) ≡ l.fn.bytes.items ++ flat_map (λ s. s.bytes) l.sources
