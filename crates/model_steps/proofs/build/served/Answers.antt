use Rattle.std.proofs.Common.{sym, ◌∙◌}
use Rattle.model_steps.proofs.Building.{kept_serves}
use Rattle.model_steps.proofs.build.served.Goals as goal

pub returns : goal.returns
returns c =
    let bound = c.args.bound.now in
    kept_serves bound.packaging c.args.packaging.now bound.base c.args.base.now bound.built c.in_ok-share.field-0
    (sym c.serves.ensures ∙ c.if-not-serves.false) c.in_ok-share.ensures bound.is_built
