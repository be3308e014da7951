use Rattle.std.proofs.Common.{◌<◌, get_or, refl, arith}
use Rattle.reactor_order.proofs.Marking.{below_at}
use Rattle.reactor.proofs.upstreams.marks_of.Goals as goal

pub index_mut-requires : goal.index_mut-requires
index_mut-requires c =
    let low : get_or c.args.numbers.now c.loop-m.m-index 0 < c.args.n = below_at c.args.numbers.now c.args.n c.args.n c.loop-m.m-index c.requires refl c.loop-m-test.true in
    omega (arith, low, c.loop-m.invariant.long, c.loop-m.marks.ok.0)
