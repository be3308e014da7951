use Rattle.std.proofs.Common.{refl}
use Rattle.std.proofs.lemmas.Result.{err_from_is_err_and}
use Rattle.interpolation.proofs.Lists.{chain, chain_fails, exit_gives, stop_fails}
use Rattle.interpolation.specs.Filling.{fill_extension}
use Rattle.interpolation.proofs.items.GavFill.fill.Goals as goal

pub returns-in_err-group : goal.returns-in_err-group
unfolding fill_extension
returns-in_err-group c = λ known table.
    let fault = c.in_err-group.field-0.0 in
    let p = err_from_is_err_and c.from_residual.result c.from_residual.ensures.1 in
    exit_gives _ known c.name.new.self fault p.0 c.from_residual.result p.1 p.2 (stop_fails _ fault _ (c.in_err-group.ensures known table))

pub returns-in_err-artifact : goal.returns-in_err-artifact
unfolding fill_extension
returns-in_err-artifact c = λ known table.
    let s0 = c.in_ok-group.ensures known table in
    let fault = c.in_err-artifact.field-0.0 in
    let p = err_from_is_err_and c.from_residual-in_err-artifact.result c.from_residual-in_err-artifact.ensures.1 in
    exit_gives _ known c.name-2.new.self fault p.0 c.from_residual-in_err-artifact.result p.1 p.2 (chain_fails fault _ s0.0 (stop_fails _ fault _ (c.in_err-artifact.ensures known s0.1)))

pub returns-in_err-version : goal.returns-in_err-version
unfolding fill_extension
returns-in_err-version c = λ known table.
    let s0 = c.in_ok-group.ensures known table in
    let s1 = c.in_ok-artifact.ensures known s0.1 in
    let fault = c.in_err-version.field-0.0 in
    let p = err_from_is_err_and c.from_residual-in_err-version.result c.from_residual-in_err-version.ensures.1 in
    exit_gives _ known c.name-3.new.self fault p.0 c.from_residual-in_err-version.result p.1 p.2 (chain_fails fault _ s0.0 (chain_fails fault _ s1.0 (stop_fails _ fault _ (c.in_err-version.ensures known s1.1))))

pub returns : goal.returns
unfolding fill_extension
returns c = λ known table.
    let s0 = c.in_ok-group.ensures known table in
    let s1 = c.in_ok-artifact.ensures known s0.1 in
    let s2 = c.in_ok-version.ensures known s1.1 in
    (chain _ s0.0 (chain _ s1.0 (chain _ s2.0 refl)), s2.1)
