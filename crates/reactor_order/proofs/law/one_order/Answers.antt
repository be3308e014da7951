use Rattle.reactor_order.proofs.Orders.{order_exactly, each_once, upstreams_before}
use Rattle.reactor_order.proofs.Cycles.{order_cycles}
use Rattle.reactor_order.proofs.law.one_order.Goals as goal

pub returns : goal.returns
returns c = record { exactly = order_exactly; once = each_once; before = upstreams_before; cycle = order_cycles }
