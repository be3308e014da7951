use Rattle.std.proofs.Common.{◌≡◌, ℕ, ◌<◌, ◌||◌, false, length, get_or}
use Rattle.reactor_order.proofs.selected.joined.Given as goal

abbrev pub invariant-loop-m : goal.invariant-loop-m
invariant-loop-m l = record {
  long : length l.marks.items ≡ l.m;
  each : (k : ℕ) → k < l.m → get_or l.marks.items k false ≡ (get_or l.a k false || (get_or l.b k false || get_or l.c k false));
}
