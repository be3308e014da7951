use Rattle.std.proofs.Common.{◌≡◌, arith, sym, subst, ◌∙◌}
use Rattle.event_core.specs.Fronts.{is_marked, mark_of}
use Rattle.event_core.proofs.Follows.{marked_on}
use Rattle.event_core.proofs.follow.mark_all.Goals as goal

pub loop-at-preserved : goal.loop-at-preserved
loop-at-preserved c =
    let edges = c.args.edges.now in
    let wanted = mark_of c.args.progress.now c.args.upstream.now c.args.places.now c.args.beyond in (
      c.mark.ensures.length ∙ c.loop-at.invariant.0,
      λ k low. marked_on edges c.loop-at.at (omega (arith, c.loop-at-test.true)) (record { «module» = 0; place = 0 }) k
          (is_marked c.args.marks.now.words.items k) (is_marked c.loop-at.marks.words.items k) (is_marked c.mark.new.marks.words.items k) (wanted k)
          (λ same. subst (λ j. is_marked c.mark.new.marks.words.items j ≡ wanted j) (sym same) (c.mark.ensures.same (omega (arith, low, same))))
          (λ other. c.mark.ensures.others k other)
          (c.loop-at.invariant.1 k low),
    )
