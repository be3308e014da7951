use Rattle.std.proofs.Common.{◌≡◌, None, map, take}
use Rattle.resolution.proofs.walks.no_scopes.Given as goal

abbrev pub invariant-loop : goal.invariant-loop
invariant-loop l = l.scopes.items ≡ map (λ _. None) (take l.index l.below)
