use Rattle.std.proofs.Common.{◌≡◌, ℕ, ◌<◌, length, get_or}
use Rattle.reactor_order.proofs.cycle.themselves.Given as goal

abbrev pub invariant-loop-m : goal.invariant-loop-m
invariant-loop-m l = record {
  long : length l.list.items ≡ l.m;
  itself : (k : ℕ) → k < l.m → get_or l.list.items k 0 ≡ k;
}
