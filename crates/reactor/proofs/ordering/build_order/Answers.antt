use Rattle.std.proofs.Common.{length, sym, subst}
use Rattle.reactor_order.specs.Graph.{AreEdgesBelow}
use Rattle.reactor.proofs.Below.{keeps_below}
use Rattle.reactor.proofs.ordering.build_order.Goals as goal

pub order-requires : goal.order-requires
order-requires c = subst (AreEdgesBelow (length c.args.modules.now)) (sym c.as_slice.ensures) (keeps_below (length c.args.modules.now) c.args.firm.now c.args.soft.now c.in_ok-edges.edges c.requires.firm c.requires.soft c.in_ok-edges.ensures)
