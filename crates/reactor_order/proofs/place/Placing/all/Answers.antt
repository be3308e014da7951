use Rattle.std.proofs.Common.{◌-◌, subst, sym, ap, ◌∙◌}
use Rattle.reactor_order.specs.Graph.{flipped, IsGraph}
use Rattle.reactor_order.specs.Order.{next_module, placed_from, with_next}
use Rattle.reactor_order.specs.Waiting.{IsPlacing}
use Rattle.reactor_order.proofs.Turning.{one_turn}
use Rattle.reactor_order.proofs.place.Placing.all.Goals as goal

pub loop-left-preserved : goal.loop-left-preserved
loop-left-preserved c =
    let p = c.loop-left.placing in
    let q = c.turn.new.self in
    let n = c.args.n in
    let edges = c.args.edges.now in
    let was = c.loop-left.invariant in
    let next = sym (λ i. next_module (was.number i) (was.edges i) p.placed.items) ∙ sym c.in_ok-turn.ensures.next ∙ c.in-Some.is in
    record {
      number = c.turn.ensures.number ∙ was.number;
      edges = c.turn.ensures.edges ∙ was.edges;
      placing = subst (λ k. IsPlacing k edges q.placed.items q.waits.items q.ready) was.number (subst (λ e. IsPlacing p.n e q.placed.items q.waits.items q.ready) was.edges c.in_ok-turn.ensures.placing);
      downstreams = subst (λ k. IsGraph k (flipped edges) q.downstreams.lists.items) was.number (subst (λ e. IsGraph p.n (flipped e) q.downstreams.lists.items) was.edges c.turn.ensures.downstreams);
      on = was.on ∙ one_turn c.loop-left.left n edges p.placed.items _ c.loop-left-test.true next ∙ ap (placed_from (c.loop-left.left - 1) n edges) (sym (c.in_ok-turn.ensures.placed ∙ ap (with_next p.placed.items) c.in-Some.is));
    }
