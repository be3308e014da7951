use Rattle.std.proofs.Common.{◌-◌, [], length, get_or}
use Rattle.reactor_order.proofs.Reaching.{Searches}
use Rattle.reactor_order.proofs.graph.reach.Given as goal

abbrev pub invariant-loop-at : goal.invariant-loop-at
invariant-loop-at l = Searches (λ m. get_or l.next m []) l.starts (length l.next) l.at l.marks.marks.items l.marks.found.items

abbrev pub decreases-loop-at : goal.decreases-loop-at
decreases-loop-at l = length l.next - l.at
