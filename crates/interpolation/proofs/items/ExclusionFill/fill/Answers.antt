use Rattle.std.proofs.Common.{refl}
use Rattle.std.proofs.lemmas.Result.{err_from_is_err_and}
use Rattle.interpolation.proofs.Lists.{chain, chain_fails, exit_gives, stop_fails}
use Rattle.interpolation.specs.Filling.{fill_exclusion}
use Rattle.interpolation.proofs.items.ExclusionFill.fill.Goals as goal

pub returns-in_err-group : goal.returns-in_err-group
unfolding fill_exclusion
returns-in_err-group c = λ known table.
    let fault = c.in_err-group.field-0.0 in
    let p = err_from_is_err_and c.from_residual.result c.from_residual.ensures.1 in
    exit_gives _ known c.name.new.self fault p.0 c.from_residual.result p.1 p.2 (stop_fails _ fault _ (c.in_err-group.ensures known table))

pub returns-in_err-artifact : goal.returns-in_err-artifact
unfolding fill_exclusion
returns-in_err-artifact c = λ known table.
    let s0 = c.in_ok-group.ensures known table in
    let fault = c.in_err-artifact.field-0.0 in
    let p = err_from_is_err_and c.from_residual-in_err-artifact.result c.from_residual-in_err-artifact.ensures.1 in
    exit_gives _ known c.name-2.new.self fault p.0 c.from_residual-in_err-artifact.result p.1 p.2 (chain_fails fault _ s0.0 (stop_fails _ fault _ (c.in_err-artifact.ensures known s0.1)))

pub returns : goal.returns
unfolding fill_exclusion
returns c = λ known table.
    let s0 = c.in_ok-group.ensures known table in
    let s1 = c.in_ok-artifact.ensures known s0.1 in
    (chain _ s0.0 (chain _ s1.0 refl), s1.1)
