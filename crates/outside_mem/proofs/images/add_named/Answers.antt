use Rattle.outside_mem.proofs.Moments.{named_next}
use Rattle.outside_mem.proofs.images.add_named.Goals as goal

pub loop-publish-preserved : goal.loop-publish-preserved
loop-publish-preserved c =
    named_next c.args.names.now c.args.publishes.now c.loop-publish.publish-index c.publish-item.result c.loop-publish.files.items c.add_if_named.new.files.items _ c.loop-publish-test.true c.publish-item.is c.in_ok-add_if_named.ensures c.loop-publish.invariant
