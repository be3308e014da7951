use Rattle.std.proofs.Common.{not, sym, ap, ◌∙◌, arith}
use Rattle.reactor_order.specs.Graph.{has}
use Rattle.reactor_order.proofs.Placing.{find_least, find_none}
use Rattle.reactor_order.proofs.cycle.earliest_left.Goals as goal

pub returns-then-not-placed-m-clause-value : goal.returns-then-not-placed-m-clause-value
returns-then-not-placed-m-clause-value c = λ list same.
    sym (find_least (λ m. not (has list m)) 0 c.args.n c.loop-m.m (omega arith) (omega (arith, c.loop-m-test.true))
    (ap not (same c.loop-m.m ∙ c.if-not-placed-m.true)) (λ k low. ap not (same k ∙ c.loop-m.invariant k low)))

pub returns-clause-value : goal.returns-clause-value
returns-clause-value c = λ list same.
    sym (find_none (λ m. not (has list m)) 0 c.args.n (λ k low. ap not (same k ∙ c.loop-m.invariant k (omega (arith, low, c.loop-m-test.false)))))
