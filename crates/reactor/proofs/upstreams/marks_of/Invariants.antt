use Rattle.std.proofs.Common.{◌≡◌, ℕ, ◌||◌, false, drop, length, get_or}
use Rattle.reactor_order.specs.Graph.{has}
use Rattle.reactor.proofs.upstreams.marks_of.Given as goal

abbrev pub invariant-loop-m : goal.invariant-loop-m
invariant-loop-m l = record {
  long : length l.marks.items ≡ l.n;
  each : (k : ℕ) → (get_or l.marks.items k false || has (drop l.m-index l.numbers) k) ≡ has l.numbers k;
}
