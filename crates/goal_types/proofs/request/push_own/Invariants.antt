use Rattle.std.proofs.Common.{◌≡◌, ◌++◌, flat_map, drop}
use Rattle.goal_types.proofs.request.push_own.Given as goal

-- the bytes so far, and those of what is left
abbrev pub invariant-loop-output : goal.invariant-loop-output
invariant-loop-output l = l.bytes.items ++ flat_map (λ o. o.bytes) (drop l.output-index l.own) ≡ l.fn.bytes.items ++ flat_map (λ o. o.bytes) l.own
