use Rattle.std.proofs.Common.{◌≡◌, ◌++◌, drop, flat_map, map}
use Rattle.classpaths.specs.declared.resolution.Resolved.{Resolved}
use Rattle.reactor.specs.Edges.{by_winner, edges_to}
use Rattle.reactor.proofs.edges.push_winners.Given as goal

abbrev pub invariant-loop-w : goal.invariant-loop-w
invariant-loop-w l = l.edges.items ++ edges_to l.from (flat_map (by_winner l.modules) (map (λ (w : Resolved). w.gav) (drop l.w-index l.winners))) ≡ l.initial.edges.items ++ edges_to l.from (flat_map (by_winner l.modules) (map (λ (w : Resolved). w.gav) l.winners))
