use Rattle.std.proofs.Common.{◌≡◌, ◌++◌, drop, flat_map}
use Rattle.resolution.specs.Resolved.{resolved_at}
use Rattle.resolution.proofs.resolved.resolved_in.Given as goal

abbrev pub invariant-loop-at : goal.invariant-loop-at
invariant-loop-at l = l.list ++ flat_map (resolved_at l.winners l.scopes) (drop l.at l.places) ≡ flat_map (resolved_at l.winners l.scopes) l.places
