use Rattle.reactor_order.proofs.Extending.{begun}
use Rattle.reactor_order.proofs.reachability.Reachability.new.Goals as goal

pub returns-clause-none : goal.returns-clause-none
returns-clause-none c = begun c.args.n c.in_ok-ups.ups.items c.in_ok-downs.downs.items c.in_ok-ups.ensures.own c.in_ok-downs.ensures.own
