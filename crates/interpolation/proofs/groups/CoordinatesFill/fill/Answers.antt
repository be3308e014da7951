use Rattle.std.proofs.Common.{Ok, refl, sym, ap, ◌∙◌}
use Rattle.std.proofs.lemmas.Result.{err_from_is_err_and}
use Rattle.interpolation.proofs.Lists.{chain, chain_fails, exit_gives, next_fails, next_gives, stop_fails}
use Rattle.interpolation.specs.Filling.{fill_coordinates}
use Rattle.interpolation.proofs.groups.CoordinatesFill.fill.Goals as goal

pub returns-in_err-group : goal.returns-in_err-group
unfolding fill_coordinates
returns-in_err-group c = λ known table.
    let fault = c.in_err-group.field-0.0 in
    let p = err_from_is_err_and c.from_residual.result c.from_residual.ensures.1 in
    exit_gives _ known c.name_if.new.filler fault p.0 c.from_residual.result p.1 p.2 (stop_fails _ fault _ (c.in_err-group.ensures known table))

pub returns-in_err-named : goal.returns-in_err-named
unfolding fill_coordinates
returns-in_err-named c = λ known table.
    let s0 = c.in_ok-group.ensures known table in
    let fault = c.in_err-named.field-0.0 in
    let p = err_from_is_err_and c.from_residual-in_err-named.result c.from_residual-in_err-named.ensures.1 in
    exit_gives _ known c.name.new.self fault p.0 c.from_residual-in_err-named.result p.1 p.2 (chain_fails fault _ s0.0 (stop_fails _ fault _ (next_fails known _ c.name.new.self c.in_ok-group.group c.name.result fault (c.name.ensures known s0.1) c.in_err-named.ensures)))

pub returns-in_err-key : goal.returns-in_err-key
unfolding fill_coordinates
returns-in_err-key c = λ known table.
    let s0 = c.in_ok-group.ensures known table in
    let s1 = next_gives known _ c.name.new.self c.in_ok-group.group c.name.result c.in_ok-named.named (c.name.ensures known s0.1) c.in_ok-named.ensures in
    let fault = c.in_err-key.field-0.0 in
    let p = err_from_is_err_and c.from_residual-in_err-key.result c.from_residual-in_err-key.ensures.1 in
    exit_gives _ known c.name_if-2.new.filler fault p.0 c.from_residual-in_err-key.result p.1 p.2 (chain_fails fault _ s0.0 (chain_fails fault _ s1.0 (stop_fails _ fault _ (next_fails known _ c.name_if-2.new.filler c.in_ok-named.named c.name_if-2.result fault (c.name_if-2.ensures known s1.1) c.in_err-key.ensures))))

pub returns-in_err-all : goal.returns-in_err-all
unfolding fill_coordinates
returns-in_err-all c = λ known table.
    let s0 = c.in_ok-group.ensures known table in
    let s1 = next_gives known _ c.name.new.self c.in_ok-group.group c.name.result c.in_ok-named.named (c.name.ensures known s0.1) c.in_ok-named.ensures in
    let s2 = next_gives known _ c.name_if-2.new.filler c.in_ok-named.named c.name_if-2.result c.in_ok-key.key (c.name_if-2.ensures known s1.1) c.in_ok-key.ensures in
    let fault = c.in_err-all.field-0.0 in
    let p = err_from_is_err_and c.from_residual-in_err-all.result c.from_residual-in_err-all.ensures.1 in
    exit_gives _ known c.text.new.self fault p.0 c.from_residual-in_err-all.result p.1 p.2 (chain_fails fault _ s0.0 (chain_fails fault _ s1.0 (chain_fails fault _ s2.0 (stop_fails _ fault _ (next_fails known _ c.text.new.self c.in_ok-key.key c.text.result fault (c.text.ensures known s2.1) c.in_err-all.ensures)))))

pub returns : goal.returns
unfolding fill_coordinates
returns c = λ known table.
    let s0 = c.in_ok-group.ensures known table in
    let s1 = next_gives known _ c.name.new.self c.in_ok-group.group c.name.result c.in_ok-named.named (c.name.ensures known s0.1) c.in_ok-named.ensures in
    let s2 = next_gives known _ c.name_if-2.new.filler c.in_ok-named.named c.name_if-2.result c.in_ok-key.key (c.name_if-2.ensures known s1.1) c.in_ok-key.ensures in
    let s3 = next_gives known _ c.text.new.self c.in_ok-key.key c.text.result c.in_ok-all.all (c.text.ensures known s2.1) c.in_ok-all.ensures in
    let q2 = sym s3.2 in
    let q1 = sym s2.2 ∙ (λ i. (q2 i).0) in
    let q0 = sym s1.2 ∙ (λ i. (q1 i).0) in
    (chain _ s0.0 (chain _ s1.0 (chain _ s2.0 (chain _ s3.0 refl))) ∙ (λ i. Ok (record { group = q0 i; artifact = (q1 i).1; version = (q2 i).1; packaging = c.in_ok-all.all.1 })), s3.1)
