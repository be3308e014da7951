use Rattle.std.proofs.Common.{length, map, get_or, ap, ◌∙◌}
use Rattle.reactor_order.proofs.Beginning.{waits_each, waits_long}
use Rattle.reactor_order.proofs.place.waits.Goals as goal

pub returns-clause-long : goal.returns-clause-long
returns-clause-long c = ap length (c.in_ok-waits.ensures ∙ ap (map length) c.deref.ensures.value) ∙ waits_long c.args.n c.args.edges.now c.in_ok-graph.graph.lists.items c.in_ok-graph.ensures

pub returns-clause-each : goal.returns-clause-each
returns-clause-each c = λ m. ap (λ l. get_or l m 0) (c.in_ok-waits.ensures ∙ ap (map length) c.deref.ensures.value) ∙ waits_each c.args.n c.args.edges.now c.in_ok-graph.graph.lists.items m c.in_ok-graph.ensures
