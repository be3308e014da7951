use Rattle.report.specs.FullDetails.{details_of}
use Rattle.std.proofs.Common.{drop}
use Rattle.report.proofs.Lists.{details_end, details_out, told_all}
use Rattle.report.proofs.told.details_of.Goals as goal

pub returns-in_default : goal.returns-in_default
returns-in_default c =
    let n = c.loop-at.at in
    let models = c.args.models.now in
    let resolutions = c.args.resolutions.now in
    let unbound = c.args.unbound.now in
    told_all c.loop-at.list (details_of c.args.full (drop n models) (drop n resolutions) (drop n unbound)) (details_of c.args.full models resolutions unbound) c.loop-at.invariant (details_out c.args.full n models resolutions unbound c.in_default.ensures.lookup.3)

pub returns-in_default-get : goal.returns-in_default-get
returns-in_default-get c =
    let n = c.loop-at.at in
    let models = c.args.models.now in
    let resolutions = c.args.resolutions.now in
    let unbound = c.args.unbound.now in
    told_all c.loop-at.list (details_of c.args.full (drop n models) (drop n resolutions) (drop n unbound)) (details_of c.args.full models resolutions unbound) c.loop-at.invariant (details_end c.args.full n models resolutions unbound c.in_default-get.ensures.lookup.3)
