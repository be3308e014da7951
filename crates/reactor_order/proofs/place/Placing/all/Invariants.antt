use Rattle.std.proofs.Common.{◌≡◌}
use Rattle.reactor_order.specs.Graph.{flipped, IsGraph}
use Rattle.reactor_order.specs.Order.{all_placed, placed_from}
use Rattle.reactor_order.specs.Waiting.{IsPlacing}
use Rattle.reactor_order.proofs.place.Placing.all.Given as goal

abbrev pub invariant-loop-left : goal.invariant-loop-left
invariant-loop-left l = record {
  number : l.placing.n ≡ l.n;
  edges : l.placing.edges.now ≡ l.edges;
  placing : IsPlacing l.n l.edges l.placing.placed.items l.placing.waits.items l.placing.ready;
  downstreams : IsGraph l.n (flipped l.edges) l.placing.downstreams.lists.items;
  on : all_placed l.n l.edges ≡ placed_from l.left l.n l.edges l.placing.placed.items;
}

abbrev pub decreases-loop-left : goal.decreases-loop-left
decreases-loop-left l = l.left
