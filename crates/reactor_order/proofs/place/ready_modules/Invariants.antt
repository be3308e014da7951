use Rattle.std.proofs.Common.{◌≡◌, ℕ, ◌==◌, ◌&&◌, nat_lt, get_or}
use Rattle.reactor_order.specs.Ready.{is_in}
use Rattle.reactor_order.proofs.place.ready_modules.Given as goal

abbrev pub invariant-loop-m : goal.invariant-loop-m
invariant-loop-m l = (k : ℕ) → is_in l.ready k ≡ (nat_lt k l.m && (get_or l.waits k 0 == 0))
