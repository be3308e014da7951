use Rattle.std.proofs.Common.{◌≡◌, ◌++◌, codes, drop, flat_map}
use Rattle.reactor.specs.Circles.{gav_at}
use Rattle.reactor.proofs.circle.steps.Given as goal

abbrev pub invariant-loop-n : goal.invariant-loop-n
invariant-loop-n l = l.text ++ flat_map (λ n. gav_at l.modules n ++ codes " -> ") (drop l.n-index l.circle) ≡ flat_map (λ n. gav_at l.modules n ++ codes " -> ") l.circle
