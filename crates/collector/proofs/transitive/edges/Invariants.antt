use Rattle.std.proofs.Common.{◌≡◌, ◌++◌, drop}
use Rattle.collector.specs.Edges.{edges_from, transitive_edge, transitive_edges}
use Rattle.collector.proofs.transitive.edges.Given as goal

abbrev pub invariant-loop-at : goal.invariant-loop-at
invariant-loop-at l = l.list ++ edges_from (transitive_edge l.managed l.cut) l.at (drop l.at l.dependencies) ≡ transitive_edges l.dependencies l.managed l.cut
