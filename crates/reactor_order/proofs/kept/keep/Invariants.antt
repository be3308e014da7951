use Rattle.std.proofs.Common.{◌≡◌}
use Rattle.reactor_order.specs.Rows.{IsReachability}
use Rattle.reactor_order.proofs.Keeping.{KeepsOn}
use Rattle.reactor_order.proofs.kept.keep.Given as goal

abbrev pub invariant-loop-m : goal.invariant-loop-m
invariant-loop-m l = record {
  number : l.reach.n ≡ l.n;
  reach : IsReachability l.n l.kept.items l.reach.ups.items l.reach.downs.items;
  keeps : KeepsOn l.firm l.soft l.m-index l.kept.items;
}
