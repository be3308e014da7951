use Rattle.std.proofs.Common.{◌≡◌, ◌++◌, drop, flat_map}
use Rattle.reactor.specs.Edges.{by_extension, edges_to}
use Rattle.reactor.proofs.module_edges.push_extensions.Given as goal

abbrev pub invariant-loop-extension : goal.invariant-loop-extension
invariant-loop-extension l = l.edges.items ++ edges_to l.from (flat_map (by_extension l.modules) (drop l.extension-index l.extensions)) ≡ l.initial.edges.items ++ edges_to l.from (flat_map (by_extension l.modules) l.extensions)
