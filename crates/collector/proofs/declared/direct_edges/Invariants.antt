use Rattle.std.proofs.Common.{◌≡◌, [], ◌∷◌, ◌++◌, drop}
use Rattle.collector.specs.Edges.{direct_edge, direct_edges, edges_from}
use Rattle.collector.proofs.declared.direct_edges.Given as goal

abbrev pub invariant-loop-at : goal.invariant-loop-at
invariant-loop-at l = l.list ++ edges_from (λ at d. direct_edge at d ∷ []) l.at (drop l.at l.dependencies) ≡ direct_edges l.dependencies
