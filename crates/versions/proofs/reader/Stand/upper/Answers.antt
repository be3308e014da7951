use Rattle.std.proofs.Common.{◌≡◌, ◌+◌, get_or, sym, ap, ◌∙◌}
use Rattle.versions.proofs.reader.Stand.upper.Goals as goal

pub returns-in-93-clause-value : goal.returns-in-93-clause-value
returns-in-93-clause-value c =
    let b : get_or c.args.text.now c.args.at 0 ≡ 93 = ap (λ t. get_or t c.args.at 0) (sym c.as_bytes.ensures.value) ∙ c.in-93.is in
    rw b (rw c.range.ensures.value at (c.finish.ensures.value c.args.text.now (c.args.at + 1)))

pub returns-in-93-clause-stand : goal.returns-in-93-clause-stand
returns-in-93-clause-stand c = c.finish.ensures.stand c.args.text.now (c.args.at + 1)

pub returns-in-41-clause-value : goal.returns-in-41-clause-value
returns-in-41-clause-value c =
    let b : get_or c.args.text.now c.args.at 0 ≡ 41 = ap (λ t. get_or t c.args.at 0) (sym c.as_bytes.ensures.value) ∙ c.in-41.is in
    rw b (rw c.range-in-41.ensures.value at (c.finish-in-41.ensures.value c.args.text.now (c.args.at + 1)))

pub returns-in-41-clause-stand : goal.returns-in-41-clause-stand
returns-in-41-clause-stand c = c.finish-in-41.ensures.stand c.args.text.now (c.args.at + 1)
