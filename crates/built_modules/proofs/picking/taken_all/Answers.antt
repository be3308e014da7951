use Rattle.std.proofs.Common.{◌+◌, ◌<◌, ◌++◌, ◌∷◌, [], get_or, length, refl, sym, subst, arith}
use Rattle.reactor_order.proofs.Marking.{below_at}
use Rattle.built_modules.proofs.Taking.{IsTaking, still_there, taking_next}
use Rattle.built_modules.proofs.picking.taken_all.Goals as goal

pub taken-item-requires-clause-low : goal.taken-item-requires-clause-low
taken-item-requires-clause-low g c =
    let old = c.args.slots.now.items in
    let low : get_or c.args.places.now c.loop-place.place-index 0 < length old = below_at c.args.places.now (length old) (length old) c.loop-place.place-index c.requires.below refl c.loop-place-test.true in
    omega (arith, low, c.loop-place.invariant.long)

pub taken-item-requires-clause-there : goal.taken-item-requires-clause-there
taken-item-requires-clause-there g c =
    still_there c.args.places.now c.args.slots.now.items c.loop-place.slots.items c.loop-place.place-index c.loop-place.list c.loop-place-test.true c.requires.there c.loop-place.invariant

pub loop-place-preserved : goal.loop-place-preserved
loop-place-preserved g c =
    subst (λ l. IsTaking c.args.places.now c.args.slots.now.items (c.loop-place.place-index + 1) c.taken-item.new.slots.items l) (sym c.in_ok-push.ensures.ok)
    (subst (λ s. IsTaking c.args.places.now c.args.slots.now.items (c.loop-place.place-index + 1) s (c.loop-place.list ++ c.taken-item.result ∷ [])) (sym c.taken-item.ensures.slots)
    (taking_next c.args.places.now c.args.slots.now.items c.loop-place.slots.items c.loop-place.place-index c.loop-place.list c.taken-item.result c.requires.once c.loop-place-test.true c.loop-place.invariant (sym c.taken-item.ensures.value)))
