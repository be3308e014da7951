use Rattle.std.proofs.Common.{length, get_or, arith, refl, ap, ◌∙◌, []}
use Rattle.std.proofs.lemmas.List.{length-set}
use Rattle.event_core.specs.Fronts.{has_edge}
use Rattle.event_core.proofs.Fronts.{edges_end, edges_more}
use Rattle.event_core.proofs.progress_edges.add_edges.Goals as goal

pub loop-place-preserved : goal.loop-place-preserved
loop-place-preserved c =
    let new = c.in_ok-add_edge.ensures in
    let so_far = c.loop-place.invariant in (
      ap length new ∙ length-set c.loop-place.edges.items _ _ ∙ so_far.0,
      λ m k p low. ap (λ t. has_edge k p (get_or t m [])) new
          ∙ edges_more c.args.edges.now.items c.loop-place.edges.items c.args.upstream.now c.loop-place.place c.args.«module» (record { «module» = c.args.«module»; place = c.loop-place.place }) refl refl (omega (arith, c.loop-place-test.true)) m k p (omega (arith, low, so_far.0)) (so_far.1 m k p low),
    )

pub returns-clause-more : goal.returns-clause-more
returns-clause-more c = λ m k p low. edges_end c.loop-place.edges.items c.args.edges.now.items c.args.upstream.now c.loop-place.place c.args.«module» m k p (omega (arith, c.loop-place-test.false)) (c.loop-place.invariant.1 m k p low)
