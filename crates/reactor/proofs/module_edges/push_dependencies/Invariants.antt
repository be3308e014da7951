use Rattle.std.proofs.Common.{◌≡◌, ◌++◌, drop, flat_map}
use Rattle.reactor.specs.Edges.{by_dependency, edges_to}
use Rattle.reactor.proofs.module_edges.push_dependencies.Given as goal

abbrev pub invariant-loop-d : goal.invariant-loop-d
invariant-loop-d l = l.edges.items ++ edges_to l.from (flat_map (by_dependency l.modules) (drop l.d-index l.dependencies)) ≡ l.initial.edges.items ++ edges_to l.from (flat_map (by_dependency l.modules) l.dependencies)
