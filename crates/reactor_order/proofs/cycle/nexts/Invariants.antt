use Rattle.std.proofs.Common.{◌≡◌, ℕ, false, List, length, get_or, take}
use Rattle.reactor_order.specs.Graph.{has}
use Rattle.reactor_order.specs.Walking.{Goes}
use Rattle.reactor_order.proofs.cycle.nexts.Given as goal

abbrev pub invariant-loop-m : goal.invariant-loop-m
invariant-loop-m l = record {
  long : length l.nexts.items ≡ l.n;
  goes : (list : List ℕ) → ((k : ℕ) → has list k ≡ get_or l.placed k false) → Goes l.n (take l.m-index l.edges) list l.nexts.items;
}
