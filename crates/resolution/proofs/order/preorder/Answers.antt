use Rattle.std.proofs.Common.{None, ◌≡◌, ◌<◌, ◌++◌, get_or, length, subst, sym}
use Rattle.resolution.specs.Preorder.{preorder}
use Rattle.resolution.proofs.Trees.{next_place, smaller, waiting}
use Rattle.resolution.proofs.order.preorder.Goals as goal

pub loop-place-smaller : goal.loop-place-smaller
loop-place-smaller c =
    let above = c.args.above.now in
    let links = c.in_ok-links.links in
    let place = c.in-Some.place in
    subst (λ s. length (waiting above c.push_behind.new.stack.items) < length (waiting above s)) (sym c.in-Some.ensures.items)
    (smaller above c.requires c.pop.new.self.items c.push_behind.new.stack.items place (get_or links.next.items place None) (get_or links.first.items place None)
    (c.in_ok-links.ensures.nexts place) (c.in_ok-links.ensures.firsts place) c.in_ok-push_behind.ensures)

pub loop-place-preserved : goal.loop-place-preserved
loop-place-preserved c =
    let above = c.args.above.now in
    let links = c.in_ok-links.links in
    let place = c.in-Some.place in
    subst (λ o. o ++ waiting above c.push_behind.new.stack.items ≡ preorder above) (sym c.in_ok-push.ensures.ok)
    (next_place above c.requires c.loop-place.order c.pop.new.self.items c.push_behind.new.stack.items place (get_or links.next.items place None) (get_or links.first.items place None) (preorder above)
    (c.in_ok-links.ensures.nexts place) (c.in_ok-links.ensures.firsts place) c.in_ok-push_behind.ensures
    (subst (λ s. c.loop-place.order ++ waiting above s ≡ preorder above) c.in-Some.ensures.items c.loop-place.invariant))
