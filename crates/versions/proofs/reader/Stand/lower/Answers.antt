use Rattle.std.proofs.Common.{◌≡◌, ◌+◌, get_or, sym, ap, ◌∙◌}
use Rattle.versions.proofs.reader.Stand.lower.Goals as goal

pub returns-in_ok-bound-in-93-clause-value : goal.returns-in_ok-bound-in-93-clause-value
returns-in_ok-bound-in-93-clause-value c =
    let b : get_or c.args.text.now c.args.at 0 ≡ 93 = ap (λ t. get_or t c.args.at 0) (sym c.as_bytes.ensures.value) ∙ c.in-93.is in
    let e = c.in_ok-bound-in-93.ensures in
    rw (b, c.if-square.true) (rw (e, c.range-in-93.ensures.value) at (c.exactly.ensures.value c.args.text.now (c.args.at + 1)))

pub returns-in_ok-bound-in-93-clause-stand : goal.returns-in_ok-bound-in-93-clause-stand
returns-in_ok-bound-in-93-clause-stand c = c.exactly.ensures.stand c.args.text.now (c.args.at + 1)
