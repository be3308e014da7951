use Rattle.std.proofs.Common.{◌≡◌, ◌++◌, drop, flat_map}
use Rattle.reactor.specs.Edges.{by_plugin, edges_to}
use Rattle.reactor.proofs.module_edges.push_plugins.Given as goal

abbrev pub invariant-loop-plugin : goal.invariant-loop-plugin
invariant-loop-plugin l = l.edges.items ++ edges_to l.from (flat_map (by_plugin l.modules) (drop l.plugin-index l.plugins)) ≡ l.initial.edges.items ++ edges_to l.from (flat_map (by_plugin l.modules) l.plugins)
