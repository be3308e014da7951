use Rattle.std.proofs.Common.{◌≡◌, ◌<◌, length, get_or, refl, sym, ap, ◌∙◌, arith}
use Rattle.std.proofs.lemmas.Str.{IsCharBoundary-start}
use Rattle.versions.proofs.Spaces.{after_one, boundary_after}
use Rattle.versions.proofs.word.after_spaces.Goals as goal

pub loop-at-init : goal.loop-at-init
loop-at-init c = record { within = omega arith; boundary = IsCharBoundary-start c.args.word.now c.utf8.word; rest = refl }

pub loop-at-preserved : goal.loop-at-preserved
loop-at-preserved c =
    let low : c.loop-at.at < length c.args.word.now = omega (arith, c.loop-at-test.true, ap length c.as_bytes-bytes.ensures.value) in
    let space : get_or c.args.word.now c.loop-at.at 0 ≡ 32 = ap (λ w. get_or w c.loop-at.at 0) (sym c.as_bytes-bytes.ensures.value) ∙ c.if-bytes-at-eq32.true in
    record {
      within = omega (arith, c.loop-at-test.true);
      boundary = boundary_after c.args.word.now c.loop-at.at c.utf8.word low space;
      rest = after_one c.args.word.now c.loop-at.at low space ∙ c.loop-at.invariant.rest;
    }
