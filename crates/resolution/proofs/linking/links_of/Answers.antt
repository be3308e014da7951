use Rattle.resolution.proofs.Linked.{all_linked, one_more}
use Rattle.resolution.proofs.linking.links_of.Goals as goal

pub loop-at-preserved : goal.loop-at-preserved
loop-at-preserved c =
    one_more c.args.above.now c.requires c.loop-at.at c.loop-at.top c.loop-at.first.items c.loop-at.next.items
    c.put_first-link.new.top c.put_first-link.result c.put_first-link.new.first.items c.set_link.new.links.items c.loop-at-test.true
    c.put_first-link.ensures.head c.put_first-link.ensures.top c.put_first-link.ensures.first c.set_link.ensures c.loop-at.invariant

pub returns : goal.returns
returns c = all_linked c.args.above.now c.requires c.loop-at.at c.loop-at.top c.loop-at.first.items c.loop-at.next.items c.loop-at-test.false c.loop-at.invariant
