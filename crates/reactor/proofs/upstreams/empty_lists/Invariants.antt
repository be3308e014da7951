use Rattle.std.proofs.Common.{◌≡◌, ℕ, [], length, get_or}
use Rattle.reactor.proofs.upstreams.empty_lists.Given as goal

abbrev pub invariant-loop : goal.invariant-loop
invariant-loop l = record {
  long : length l.lists.items ≡ l.counter;
  empty : (m : ℕ) → get_or l.lists.items m [] ≡ [];
}
