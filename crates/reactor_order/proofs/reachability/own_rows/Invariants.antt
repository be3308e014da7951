use Rattle.std.proofs.Common.{◌≡◌, ℕ, ◌<◌, ◌==◌, [], length, get_or}
use Rattle.reactor_order.specs.Rows.{is_in, words_for}
use Rattle.reactor_order.proofs.reachability.own_rows.Given as goal

abbrev pub invariant-loop-m : goal.invariant-loop-m
invariant-loop-m l = record {
  long : length l.rows.items ≡ l.m;
  wide : (a : ℕ) → a < l.m → length (get_or l.rows.items a []) ≡ words_for l.n;
  own : (a b : ℕ) → a < l.m → is_in (get_or l.rows.items a []) b ≡ (a == b);
}
