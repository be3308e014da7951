use Rattle.std.proofs.Common.{get_or, arith}
use Rattle.reactor_order.proofs.Releasing.{times_next, release_next}
use Rattle.reactor_order.proofs.waiting.release.Goals as goal

pub release_one-requires : goal.release_one-requires
release_one-requires c =
    let m = get_or c.args.downs.now c.loop-m.m-index 0 in
    omega (arith, c.loop-m.invariant.fewer m, c.requires m, times_next c.loop-m.m-index c.args.downs.now c.loop-m-test.true)

pub loop-m-preserved : goal.loop-m-preserved
loop-m-preserved c = release_next c.loop-m.m-index c.args.downs.now c.args.waits.now.items c.loop-m.waits.items c.release_one.new.waits.items c.args.ready.now c.loop-m.ready c.release_one.new.ready c.loop-m-test.true c.loop-m.invariant c.in_ok-release_one.ensures
