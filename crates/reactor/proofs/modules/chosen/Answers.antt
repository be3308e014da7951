use Rattle.std.proofs.Common.{◌≡◌, ◌<◌, length, sym, subst}
use Rattle.reactor_order.specs.Graph.{AreBelow, AreEdgesBelow}
use Rattle.reactor.proofs.InOrder.{edges_below_order, has_order, is_few, order_below}
use Rattle.reactor.proofs.modules.chosen.Goals as goal

pub selected-requires-clause-long : goal.selected-requires-clause-long
selected-requires-clause-long c = subst (λ l. length l < 4294967296) (sym c.as_slice.ensures) (is_few c.args.modules.now c.args.resolutions.now c.args.found.now c.requires.few c.requires.ordered)

pub selected-requires-clause-modules : goal.selected-requires-clause-modules
selected-requires-clause-modules c = subst (λ l. length l ≡ length c.args.modules.now) (sym c.as_slice.ensures) (has_order c.args.modules.now c.args.resolutions.now c.args.found.now c.requires.ordered)

pub selected-requires-clause-order : goal.selected-requires-clause-order
selected-requires-clause-order c = subst (λ l. AreBelow (length l) l) (sym c.as_slice.ensures) (order_below c.args.modules.now c.args.resolutions.now c.args.found.now c.requires.ordered)

pub selected-requires-clause-edges : goal.selected-requires-clause-edges
selected-requires-clause-edges c =
    subst (λ l. AreEdgesBelow (length l) c.as_slice-2.result.now) (sym c.as_slice.ensures)
    (subst (AreEdgesBelow (length c.args.found.now.order)) (sym c.as_slice-2.ensures) (edges_below_order c.args.modules.now c.args.resolutions.now c.args.found.now c.requires.ordered))
