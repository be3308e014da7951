use Rattle.std.proofs.Common.{take}
use Rattle.reactor_order.proofs.Adjacency.{graph_next}
use Rattle.reactor.proofs.upstreams.lists_of.Goals as goal

pub loop-m-preserved : goal.loop-m-preserved
loop-m-preserved c = graph_next c.args.n c.loop-m.m-index c.args.edges.now c.add_edge.new.lists.items c.loop-m-test.true
    (c.in_ok-add_edge.ensures c.args.n (take c.loop-m.m-index c.args.edges.now) c.loop-m.invariant)
