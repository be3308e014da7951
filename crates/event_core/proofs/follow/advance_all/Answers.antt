use Rattle.std.proofs.Common.{get_or, [], arith, sym, subst, ◌∙◌}
use Rattle.event_core.specs.Fronts.{IsBefore, IsFirst, is_unbuilt}
use Rattle.event_core.proofs.Follows.{advanced}
use Rattle.event_core.proofs.follow.advance_all.Goals as goal

pub loop-at-preserved : goal.loop-at-preserved
loop-at-preserved c =
    let p = is_unbuilt c.args.progress.now in
    let ups = c.args.upstream.now in
    let edges = c.args.edges.now in
    let m = (get_or edges c.loop-at.at (record { «module» = 0; place = 0 })).«module» in
    let places = c.loop-at.unbuilt.items in
    let new = c.advance.new.unbuilt.items in (
      c.advance.ensures.length ∙ c.loop-at.invariant.0,
      λ k low before. advanced edges c.loop-at.at (omega (arith, c.loop-at-test.true)) (record { «module» = 0; place = 0 }) p (get_or ups k []) places new k (get_or c.args.unbuilt.now.items k 0)
          c.advance.ensures.others
          (λ same was. subst (λ j. IsFirst p (get_or ups j []) (get_or new j 0)) (sym same) (c.advance.ensures.first (omega (arith, low, same)) (subst (λ j. IsBefore p (get_or ups j []) (get_or places j 0)) same was)))
          (c.loop-at.invariant.1 k low before),
    )
