use Rattle.std.proofs.Common.{◌≡◌, take}
use Rattle.reactor_order.specs.Graph.{flipped}
use Rattle.reactor_order.proofs.place.flipped.Given as goal

abbrev pub invariant-loop-m : goal.invariant-loop-m
invariant-loop-m l = l.turned.items ≡ flipped (take l.m-index l.edges)
