use Rattle.std.proofs.Common.{take}
use Rattle.reactor_order.specs.Graph.{IsGraph}
use Rattle.reactor.proofs.upstreams.lists_of.Given as goal

abbrev pub invariant-loop-m : goal.invariant-loop-m
invariant-loop-m l = IsGraph l.n (take l.m-index l.edges) l.lists.items
