use Rattle.std.proofs.Common.{Ok, refl, sym, ap, ◌∙◌}
use Rattle.std.proofs.lemmas.Result.{err_from_is_err_and}
use Rattle.interpolation.proofs.Lists.{chain, chain_fails, exit_gives, next_fails, next_gives, stop_fails}
use Rattle.interpolation.specs.Filling.{dependency_of, fill_dependency}
use Rattle.interpolation.proofs.items.DependencyFill.fill.Goals as goal

pub returns-in_err-key : goal.returns-in_err-key
unfolding fill_dependency
returns-in_err-key c = λ known table.
    let fault = c.in_err-key.field-0.0 in
    let p = err_from_is_err_and c.from_residual.result c.from_residual.ensures.1 in
    exit_gives _ known c.fill_key.new.filler fault p.0 c.from_residual.result p.1 p.2 (stop_fails _ fault _ (c.in_err-key.ensures known table))

pub returns-in_err-parts : goal.returns-in_err-parts
unfolding fill_dependency
returns-in_err-parts c = λ known table.
    let s0 = c.in_ok-key.ensures known table in
    let fault = c.in_err-parts.field-0.0 in
    let p = err_from_is_err_and c.from_residual-in_err-parts.result c.from_residual-in_err-parts.ensures.1 in
    exit_gives _ known c.fill_usage.new.filler fault p.0 c.from_residual-in_err-parts.result p.1 p.2 (chain_fails fault _ s0.0 (stop_fails _ fault _ (next_fails known _ c.fill_usage.new.filler c.in_ok-key.key c.fill_usage.result fault (c.fill_usage.ensures known s0.1) c.in_err-parts.ensures)))

pub returns-in_err-all : goal.returns-in_err-all
unfolding fill_dependency
returns-in_err-all c = λ known table.
    let s0 = c.in_ok-key.ensures known table in
    let s1 = next_gives known _ c.fill_usage.new.filler c.in_ok-key.key c.fill_usage.result c.in_ok-parts.parts (c.fill_usage.ensures known s0.1) c.in_ok-parts.ensures in
    let fault = c.in_err-all.field-0.0 in
    let p = err_from_is_err_and c.from_residual-in_err-all.result c.from_residual-in_err-all.ensures.1 in
    exit_gives _ known c.fill_each.new.filler fault p.0 c.from_residual-in_err-all.result p.1 p.2 (chain_fails fault _ s0.0 (chain_fails fault _ s1.0 (stop_fails _ fault _ (next_fails known _ c.fill_each.new.filler c.in_ok-parts.parts c.fill_each.result fault (c.fill_each.ensures known s1.1) c.in_err-all.ensures))))

pub returns : goal.returns
unfolding fill_dependency
returns c = λ known table.
    let s0 = c.in_ok-key.ensures known table in
    let s1 = next_gives known _ c.fill_usage.new.filler c.in_ok-key.key c.fill_usage.result c.in_ok-parts.parts (c.fill_usage.ensures known s0.1) c.in_ok-parts.ensures in
    let s2 = next_gives known _ c.fill_each.new.filler c.in_ok-parts.parts c.fill_each.result c.in_ok-all.all (c.fill_each.ensures known s1.1) c.in_ok-all.ensures in
    let q1 = sym s2.2 in
    let q0 = sym s1.2 ∙ (λ i. (q1 i).0) in
    (chain _ s0.0 (chain _ s1.0 (chain _ s2.0 refl)) ∙ (λ i. Ok (dependency_of (q0 i) ((q1 i).1) c.in_ok-all.all.1)) ∙ ap (λ d. Ok d) (sym c.dependency_of.ensures), s2.1)
