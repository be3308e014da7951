use Rattle.std.proofs.Common.{◌≡◌, drop}
use Rattle.reactor_order.specs.Cycle.{from_first}
use Rattle.reactor_order.proofs.cycle.from_first.Given as goal

abbrev pub invariant-loop-at : goal.invariant-loop-at
invariant-loop-at l = from_first l.m l.seen ≡ from_first l.m (drop l.at l.seen)
