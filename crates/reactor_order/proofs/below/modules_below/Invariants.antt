use Rattle.std.proofs.Common.{ℕ, ◌<◌, get_or}
use Rattle.reactor_order.proofs.below.modules_below.Given as goal

abbrev pub invariant-loop-m : goal.invariant-loop-m
invariant-loop-m l = (i : ℕ) → i < l.m-index → get_or l.modules i 0 < l.n
