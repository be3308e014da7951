use Rattle.std.proofs.Common.{◌≡◌, Some, drop}
use Rattle.reactor_order.specs.Select.{from_on}
use Rattle.reactor_order.proofs.selected.from_place.Given as goal

abbrev pub invariant-loop-at : goal.invariant-loop-at
invariant-loop-at l = from_on (Some l.from) l.order ≡ from_on (Some l.from) (drop l.at l.order)
