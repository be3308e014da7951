use Rattle.resolution.proofs.Linked.{Linked}
use Rattle.resolution.proofs.linking.links_of.Given as goal

abbrev pub invariant-loop-at : goal.invariant-loop-at
invariant-loop-at l = Linked l.above l.at l.top l.first.items l.next.items

abbrev pub decreases-loop-at : goal.decreases-loop-at
decreases-loop-at l = l.at
