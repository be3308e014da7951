use Rattle.std.proofs.Common.{◌≡◌, ◌-◌, ◌<◌, ◌≤◌, length, get_or, rules, sym, ap, ◌∙◌, arith}
use Rattle.versions.proofs.Spaces.{before_last, boundary_before, before_end}
use Rattle.versions.proofs.word.before_spaces.Goals.{then-loop-end-test+else-bytes-end-eq32, else-loop-end-test}
use Rattle.versions.proofs.word.before_spaces.Goals as goal

pub loop-end-preserved : goal.loop-end-preserved
loop-end-preserved c =
    let low : c.loop-end.end ≤ length c.args.word.now = omega (arith, c.loop-end.invariant.within, ap length c.as_bytes-bytes.ensures.value) in
    let space : get_or c.args.word.now (c.loop-end.end - 1) 0 ≡ 32 = ap (λ w. get_or w (c.loop-end.end - 1) 0) (sym c.as_bytes-bytes.ensures.value) ∙ c.if-bytes-end-eq32.true in
    record {
      within = omega (arith, c.loop-end.invariant.within);
      boundary = boundary_before c.args.word.now c.loop-end.end c.loop-end-test.true low space;
      rest = before_last c.args.word.now c.loop-end.end c.loop-end-test.true low space ∙ c.loop-end.invariant.rest;
    }

pub returns : goal.returns
returns c =
    let low : c.loop-end.end ≤ length c.args.word.now = omega (arith, c.loop-end.invariant.within, ap length c.as_bytes-bytes.ensures.value) in
    let full : 0 < c.loop-end.end → get_or c.args.word.now (c.loop-end.end - 1) 0 ≡ 32 → ⊥ = elim c.loop-end-test.branch [
      | then-loop-end-test+else-bytes-end-eq32 w ↦ λ _ space. w.if-bytes-end-eq32.false (ap (λ word. get_or word (c.loop-end.end - 1) 0) c.as_bytes-bytes.ensures.value ∙ space)
      | else-loop-end-test w ↦ λ some _. omega (arith, some, w.loop-end-test.false)
    ] in
    (c.range.ensures.value ∙ search rules) ∙ sym (before_end c.args.word.now c.loop-end.end low full) ∙ c.loop-end.invariant.rest
