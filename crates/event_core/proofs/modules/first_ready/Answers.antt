use Rattle.std.proofs.Common.{◌*◌, ◌<◌, ◌^◌, true, length, sym, subst}
use Rattle.event_core.specs.Fronts.{mark_of}
use Rattle.event_core.proofs.Fronts.{next_mark}
use Rattle.event_core.proofs.modules.first_ready.Goals as goal

pub loop-at-preserved : goal.loop-at-preserved
loop-at-preserved c =
    let was = c.loop-at.invariant in
    let same_length = sym c.mark.ensures.length in (
      subst (λ n. length c.args.upstream.now < 64 * n) same_length was.0,
      subst (λ n. n < 2 ^ 32) same_length was.1,
      next_mark c.mark.new.marks.words.items c.loop-at.marks.words.items (mark_of c.args.progress.now c.args.upstream.now c.args.unbuilt.now true) c.loop-at.at (c.mark.ensures.same c.loop-at-test.true) c.mark.ensures.others was.2,
    )
