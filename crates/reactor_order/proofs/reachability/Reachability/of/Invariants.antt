use Rattle.std.proofs.Common.{◌≡◌, take}
use Rattle.reactor_order.specs.Rows.{IsReachability}
use Rattle.reactor_order.proofs.reachability.Reachability.of.Given as goal

abbrev pub invariant-loop-m : goal.invariant-loop-m
invariant-loop-m l = record {
  number : l.reach.n ≡ l.n;
  so_far : IsReachability l.n (take l.m-index l.edges) l.reach.ups.items l.reach.downs.items;
}
