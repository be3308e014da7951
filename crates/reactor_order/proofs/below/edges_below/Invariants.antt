use Rattle.std.proofs.Common.{ℕ, ◌<◌, get_or}
use Rattle.reactor_order.proofs.below.edges_below.Given as goal

abbrev pub invariant-loop-m : goal.invariant-loop-m
invariant-loop-m l = (i : ℕ) → i < l.m-index → ((get_or l.edges i (0, 0)).0 < l.n) × ((get_or l.edges i (0, 0)).1 < l.n)
