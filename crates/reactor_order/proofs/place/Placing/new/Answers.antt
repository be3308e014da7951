use Rattle.std.proofs.Common.{◌==◌, ◌&&◌, nat_lt, get_or, ap, ◌∙◌}
use Rattle.reactor_order.proofs.Beginning.{begins}
use Rattle.reactor_order.proofs.place.Placing.new.Goals as goal

pub returns-clause-placing : goal.returns-clause-placing
returns-clause-placing c = begins c.args.n c.args.edges.now c.in_ok-waits.waits.items c.in_ok-ready.ready c.in_ok-waits.ensures.long c.in_ok-waits.ensures.each
    (λ m. c.in_ok-ready.ensures m ∙ ap (λ w. nat_lt m c.args.n && (get_or w m 0 == 0)) c.deref-2.ensures.value)
