use Rattle.std.proofs.Common.{refl}
use Rattle.reactor_order.proofs.Marking.{below_at}
use Rattle.reactor.proofs.upstreams.places_of_all.Goals as goal

pub places_at-requires-clause-below : goal.places_at-requires-clause-below
places_at-requires-clause-below c = below_at c.args.selected.now c.args.n c.args.n c.loop-m.m-index c.requires.below refl c.loop-m-test.true
