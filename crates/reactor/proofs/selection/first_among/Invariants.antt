use Rattle.std.proofs.Common.{◌≡◌, drop, find}
use Rattle.reactor_order.specs.Graph.{has}
use Rattle.reactor.proofs.selection.first_among.Given as goal

abbrev pub invariant-loop-n : goal.invariant-loop-n
invariant-loop-n l = find (λ n. has l.numbers n) (drop l.n-index l.order) ≡ find (λ n. has l.numbers n) l.order
