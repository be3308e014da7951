use Rattle.std.proofs.Common.{◌≡◌, length, map, take}
use Rattle.reactor_order.proofs.place.lengths.Given as goal

abbrev pub invariant-loop-list : goal.invariant-loop-list
invariant-loop-list l = l.lengths.items ≡ map length (take l.list-index l.lists)
