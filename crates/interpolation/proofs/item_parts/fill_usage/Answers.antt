use Rattle.std.proofs.Common.{Ok, refl, sym, ap, ◌∙◌}
use Rattle.std.proofs.lemmas.Result.{err_from_is_err_and}
use Rattle.interpolation.proofs.Lists.{chain, chain_fails, exit_gives, next_fails, next_gives, stop_fails}
use Rattle.interpolation.specs.Filling.{fill_usage}
use Rattle.interpolation.proofs.item_parts.fill_usage.Goals as goal

pub returns-in_err-kind : goal.returns-in_err-kind
unfolding fill_usage
returns-in_err-kind c = λ known table.
    let fault = c.in_err-kind.field-0.0 in
    let p = err_from_is_err_and c.from_residual.result c.from_residual.ensures.1 in
    exit_gives _ known c.name.new.self fault p.0 c.from_residual.result p.1 p.2 (stop_fails _ fault _ (c.in_err-kind.ensures known table))

pub returns-in_err-file : goal.returns-in_err-file
unfolding fill_usage
returns-in_err-file c = λ known table.
    let s0 = c.in_ok-kind.ensures known table in
    let fault = c.in_err-file.field-0.0 in
    let p = err_from_is_err_and c.from_residual-in_err-file.result c.from_residual-in_err-file.ensures.1 in
    exit_gives _ known c.name-2.new.self fault p.0 c.from_residual-in_err-file.result p.1 p.2 (chain_fails fault _ s0.0 (stop_fails _ fault _ (next_fails known _ c.name-2.new.self c.in_ok-kind.kind c.name-2.result fault (c.name-2.ensures known s0.1) c.in_err-file.ensures)))

pub returns-in_err-used : goal.returns-in_err-used
unfolding fill_usage
returns-in_err-used c = λ known table.
    let s0 = c.in_ok-kind.ensures known table in
    let s1 = next_gives known _ c.name-2.new.self c.in_ok-kind.kind c.name-2.result c.in_ok-file.file (c.name-2.ensures known s0.1) c.in_ok-file.ensures in
    let fault = c.in_err-used.field-0.0 in
    let p = err_from_is_err_and c.from_residual-in_err-used.result c.from_residual-in_err-used.ensures.1 in
    exit_gives _ known c.name_if.new.filler fault p.0 c.from_residual-in_err-used.result p.1 p.2 (chain_fails fault _ s0.0 (chain_fails fault _ s1.0 (stop_fails _ fault _ (next_fails known _ c.name_if.new.filler c.in_ok-file.file c.name_if.result fault (c.name_if.ensures known s1.1) c.in_err-used.ensures))))

pub returns-in_err-all : goal.returns-in_err-all
unfolding fill_usage
returns-in_err-all c = λ known table.
    let s0 = c.in_ok-kind.ensures known table in
    let s1 = next_gives known _ c.name-2.new.self c.in_ok-kind.kind c.name-2.result c.in_ok-file.file (c.name-2.ensures known s0.1) c.in_ok-file.ensures in
    let s2 = next_gives known _ c.name_if.new.filler c.in_ok-file.file c.name_if.result c.in_ok-used.used (c.name_if.ensures known s1.1) c.in_ok-used.ensures in
    let fault = c.in_err-all.field-0.0 in
    let p = err_from_is_err_and c.from_residual-in_err-all.result c.from_residual-in_err-all.ensures.1 in
    exit_gives _ known c.text.new.self fault p.0 c.from_residual-in_err-all.result p.1 p.2 (chain_fails fault _ s0.0 (chain_fails fault _ s1.0 (chain_fails fault _ s2.0 (stop_fails _ fault _ (next_fails known _ c.text.new.self c.in_ok-used.used c.text.result fault (c.text.ensures known s2.1) c.in_err-all.ensures)))))

pub returns : goal.returns
unfolding fill_usage
returns c = λ known table.
    let s0 = c.in_ok-kind.ensures known table in
    let s1 = next_gives known _ c.name-2.new.self c.in_ok-kind.kind c.name-2.result c.in_ok-file.file (c.name-2.ensures known s0.1) c.in_ok-file.ensures in
    let s2 = next_gives known _ c.name_if.new.filler c.in_ok-file.file c.name_if.result c.in_ok-used.used (c.name_if.ensures known s1.1) c.in_ok-used.ensures in
    let s3 = next_gives known _ c.text.new.self c.in_ok-used.used c.text.result c.in_ok-all.all (c.text.ensures known s2.1) c.in_ok-all.ensures in
    let q2 = sym s3.2 in
    let q1 = sym s2.2 ∙ (λ i. (q2 i).0) in
    let q0 = sym s1.2 ∙ (λ i. (q1 i).0) in
    (chain _ s0.0 (chain _ s1.0 (chain _ s2.0 (chain _ s3.0 refl))) ∙ (λ i. Ok (record { kind = q0 i; classifier = (q1 i).1; scope = (q2 i).1; optional = c.in_ok-all.all.1 })), s3.1)
