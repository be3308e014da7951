use Rattle.std.proofs.Common.{◌≡◌, Some, drop}
use Rattle.reactor_order.specs.Graph.{has}
use Rattle.reactor_order.specs.Select.{from_on}
use Rattle.reactor.proofs.selection.rest_from.Given as goal

abbrev pub invariant-loop-at : goal.invariant-loop-at
invariant-loop-at l = (from_on (Some l.n) (drop l.at l.list) ≡ from_on (Some l.n) l.list) × (has (drop l.at l.list) l.n ≡ has l.list l.n)
