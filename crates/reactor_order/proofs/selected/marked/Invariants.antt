use Rattle.std.proofs.Common.{◌≡◌, false, get_or, filter, take}
use Rattle.reactor_order.proofs.selected.marked.Given as goal

abbrev pub invariant-loop-m : goal.invariant-loop-m
invariant-loop-m l = l.list.items ≡ filter (λ m. get_or l.marks m false) (take l.m-index l.order)
