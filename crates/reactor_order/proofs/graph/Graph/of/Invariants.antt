use Rattle.std.proofs.Common.{take}
use Rattle.reactor_order.specs.Graph.{IsGraph}
use Rattle.reactor_order.proofs.graph.Graph.of.Given as goal

abbrev pub invariant-loop-m : goal.invariant-loop-m
invariant-loop-m l = IsGraph l.n (take l.m-index l.edges) l.graph.lists.items
