use Rattle.std.proofs.Common.{◌-◌}
use Rattle.reactor_order.proofs.Spreading.{Spreads}
use Rattle.reactor_order.proofs.reachability.spread.Given as goal

abbrev pub invariant-loop-m : goal.invariant-loop-m
invariant-loop-m l = Spreads l.n l.initial.rows.items l.modules l.more l.m l.rows.items

abbrev pub decreases-loop-m : goal.decreases-loop-m
decreases-loop-m l = l.n - l.m
