use Rattle.reactor_order.proofs.selected.asked_marks.Goals as goal

pub returns-clause-value : goal.returns-clause-value
returns-clause-value c =
    let r = c.in_ok-marks.ensures c.args.n c.args.edges.now c.in_ok-graph.ensures in
    λ m. (λ is. (c.if-not-asked.false, r.sound m is), λ asked. r.whole m asked.1)

pub returns-clause-long : goal.returns-clause-long
returns-clause-long c = (c.in_ok-marks.ensures c.args.n c.args.edges.now c.in_ok-graph.ensures).long
