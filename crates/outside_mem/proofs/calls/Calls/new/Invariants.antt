use Rattle.std.proofs.Common.{◌≡◌, ◌==◌, ℕ, [], take}
use Rattle.std.specs.List.{list_any}
use Rattle.std.specs.Ordering.{nat_cmp}
use Rattle.std.specs.BTreeSet.{contains}
use Rattle.outside_mem.proofs.calls.Calls.new.Given as goal

abbrev pub invariant-loop-n : goal.invariant-loop-n
invariant-loop-n l = record {
  so_far : (q : ℕ) → contains nat_cmp l.set q ≡ list_any (λ m. q == m) (take l.n-index l.n-items);
  none : take l.n-index l.n-items ≡ [] → l.set.keys ≡ [];
}
