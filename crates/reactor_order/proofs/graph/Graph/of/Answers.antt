use Rattle.std.proofs.Common.{take}
use Rattle.reactor_order.proofs.Adjacency.{graph_next}
use Rattle.reactor_order.proofs.graph.Graph.of.Goals as goal

pub loop-m-preserved : goal.loop-m-preserved
loop-m-preserved c = graph_next c.args.n c.loop-m.m-index c.args.edges.now c.add.new.self.lists.items c.loop-m-test.true
    (c.in_ok-add.ensures c.args.n (take c.loop-m.m-index c.args.edges.now) c.loop-m.invariant)
