use Rattle.std.proofs.Common.{Ok, sym, ap}
use Rattle.std.proofs.lemmas.Result.{err_from_is_err_and}
use Rattle.interpolation.proofs.Lists.{chain, chain_fails, exit_gives, stop_fails}
use Rattle.interpolation.specs.Filling.{fill_groups}
use Rattle.interpolation.proofs.model.fill_groups.Goals as goal

pub returns-in_err-properties : goal.returns-in_err-properties
unfolding fill_groups
returns-in_err-properties c = λ known table.
    let fault = c.in_err-properties.field-0.0 in
    let p = err_from_is_err_and c.from_residual.result c.from_residual.ensures.1 in
    exit_gives _ known c.fill_each.new.filler fault p.0 c.from_residual.result p.1 p.2 (stop_fails _ fault _ (c.in_err-properties.ensures known table))

pub returns-in_err-coordinates : goal.returns-in_err-coordinates
unfolding fill_groups
returns-in_err-coordinates c = λ known table.
    let s0 = c.in_ok-properties.ensures known table in
    let fault = c.in_err-coordinates.field-0.0 in
    let p = err_from_is_err_and c.from_residual-in_err-coordinates.result c.from_residual-in_err-coordinates.ensures.1 in
    exit_gives _ known c.fill.new.filler fault p.0 c.from_residual-in_err-coordinates.result p.1 p.2 (chain_fails fault _ s0.0 (stop_fails _ fault _ (c.in_err-coordinates.ensures known s0.1)))

pub returns-in_err-outputs : goal.returns-in_err-outputs
unfolding fill_groups
returns-in_err-outputs c = λ known table.
    let s0 = c.in_ok-properties.ensures known table in
    let s1 = c.in_ok-coordinates.ensures known s0.1 in
    let fault = c.in_err-outputs.field-0.0 in
    let p = err_from_is_err_and c.from_residual-in_err-outputs.result c.from_residual-in_err-outputs.ensures.1 in
    exit_gives _ known c.fill-2.new.filler fault p.0 c.from_residual-in_err-outputs.result p.1 p.2 (chain_fails fault _ s0.0 (chain_fails fault _ s1.0 (stop_fails _ fault _ (c.in_err-outputs.ensures known s1.1))))

pub returns-in_err-sources : goal.returns-in_err-sources
unfolding fill_groups
returns-in_err-sources c = λ known table.
    let s0 = c.in_ok-properties.ensures known table in
    let s1 = c.in_ok-coordinates.ensures known s0.1 in
    let s2 = c.in_ok-outputs.ensures known s1.1 in
    let fault = c.in_err-sources.field-0.0 in
    let p = err_from_is_err_and c.from_residual-in_err-sources.result c.from_residual-in_err-sources.ensures.1 in
    exit_gives _ known c.fill-3.new.filler fault p.0 c.from_residual-in_err-sources.result p.1 p.2 (chain_fails fault _ s0.0 (chain_fails fault _ s1.0 (chain_fails fault _ s2.0 (stop_fails _ fault _ (c.in_err-sources.ensures known s2.1)))))

pub returns-in_err-base : goal.returns-in_err-base
unfolding fill_groups
returns-in_err-base c = λ known table.
    let s0 = c.in_ok-properties.ensures known table in
    let s1 = c.in_ok-coordinates.ensures known s0.1 in
    let s2 = c.in_ok-outputs.ensures known s1.1 in
    let s3 = c.in_ok-sources.ensures known s2.1 in
    let fault = c.in_err-base.field-0.0 in
    let p = err_from_is_err_and c.from_residual-in_err-base.result c.from_residual-in_err-base.ensures.1 in
    exit_gives _ known c.fill_base.new.filler fault p.0 c.from_residual-in_err-base.result p.1 p.2 (chain_fails fault _ s0.0 (chain_fails fault _ s1.0 (chain_fails fault _ s2.0 (chain_fails fault _ s3.0 (stop_fails _ fault _ (c.in_err-base.ensures known s3.1))))))

pub returns-in_err-build : goal.returns-in_err-build
unfolding fill_groups
returns-in_err-build c = λ known table.
    let s0 = c.in_ok-properties.ensures known table in
    let s1 = c.in_ok-coordinates.ensures known s0.1 in
    let s2 = c.in_ok-outputs.ensures known s1.1 in
    let s3 = c.in_ok-sources.ensures known s2.1 in
    let s4 = c.in_ok-base.ensures known s3.1 in
    let fault = c.in_err-build.field-0.0 in
    let p = err_from_is_err_and c.from_residual-in_err-build.result c.from_residual-in_err-build.ensures.1 in
    exit_gives _ known c.fill_build.new.filler fault p.0 c.from_residual-in_err-build.result p.1 p.2 (chain_fails fault _ s0.0 (chain_fails fault _ s1.0 (chain_fails fault _ s2.0 (chain_fails fault _ s3.0 (chain_fails fault _ s4.0 (stop_fails _ fault _ (c.in_err-build.ensures known s4.1)))))))

pub returns : goal.returns
unfolding fill_groups
returns c = λ known table.
    let s0 = c.in_ok-properties.ensures known table in
    let s1 = c.in_ok-coordinates.ensures known s0.1 in
    let s2 = c.in_ok-outputs.ensures known s1.1 in
    let s3 = c.in_ok-sources.ensures known s2.1 in
    let s4 = c.in_ok-base.ensures known s3.1 in
    let s5 = c.in_ok-build.ensures known s4.1 in
    (chain _ s0.0 (chain _ s1.0 (chain _ s2.0 (chain _ s3.0 (chain _ s4.0 (chain _ s5.0 (ap (λ m. Ok m) (sym c.in_ok-model.ensures))))))), s5.1)
