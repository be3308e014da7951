use Rattle.std.proofs.Common.{length}
use Rattle.reactor_order.proofs.Marking.{below_at}
use Rattle.reactor_order.proofs.marks.Marks.mark_all.Goals as goal

pub mark-requires-clause-below : goal.mark-requires-clause-below
mark-requires-clause-below c = below_at c.args.more.now (length c.args.self.now.marks.items) (length c.loop-m.self.marks.items) c.loop-m.m-index c.requires.below c.loop-m.invariant.long c.loop-m-test.true
