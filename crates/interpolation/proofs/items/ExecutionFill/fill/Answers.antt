use Rattle.std.proofs.Common.{Ok, refl, sym, ap, ◌∙◌}
use Rattle.std.proofs.lemmas.Result.{err_from_is_err_and}
use Rattle.interpolation.proofs.Lists.{chain, chain_fails, exit_gives, next_fails, next_gives, stop_fails}
use Rattle.interpolation.specs.Filling.{fill_execution}
use Rattle.interpolation.proofs.items.ExecutionFill.fill.Goals as goal

pub returns-in_err-id : goal.returns-in_err-id
unfolding fill_execution
returns-in_err-id c = λ known table.
    let fault = c.in_err-id.field-0.0 in
    let p = err_from_is_err_and c.from_residual.result c.from_residual.ensures.1 in
    exit_gives _ known c.text.new.self fault p.0 c.from_residual.result p.1 p.2 (stop_fails _ fault _ (c.in_err-id.ensures known table))

pub returns-in_err-bound : goal.returns-in_err-bound
unfolding fill_execution
returns-in_err-bound c = λ known table.
    let s0 = c.in_ok-id.ensures known table in
    let fault = c.in_err-bound.field-0.0 in
    let p = err_from_is_err_and c.from_residual-in_err-bound.result c.from_residual-in_err-bound.ensures.1 in
    exit_gives _ known c.text_if.new.filler fault p.0 c.from_residual-in_err-bound.result p.1 p.2 (chain_fails fault _ s0.0 (stop_fails _ fault _ (next_fails known _ c.text_if.new.filler c.in_ok-id.id c.text_if.result fault (c.text_if.ensures known s0.1) c.in_err-bound.ensures)))

pub returns-in_err-runs : goal.returns-in_err-runs
unfolding fill_execution
returns-in_err-runs c = λ known table.
    let s0 = c.in_ok-id.ensures known table in
    let s1 = next_gives known _ c.text_if.new.filler c.in_ok-id.id c.text_if.result c.in_ok-bound.bound (c.text_if.ensures known s0.1) c.in_ok-bound.ensures in
    let fault = c.in_err-runs.field-0.0 in
    let p = err_from_is_err_and c.from_residual-in_err-runs.result c.from_residual-in_err-runs.ensures.1 in
    exit_gives _ known c.fill_texts.new.filler fault p.0 c.from_residual-in_err-runs.result p.1 p.2 (chain_fails fault _ s0.0 (chain_fails fault _ s1.0 (stop_fails _ fault _ (next_fails known _ c.fill_texts.new.filler c.in_ok-bound.bound c.fill_texts.result fault (c.fill_texts.ensures known s1.1) c.in_err-runs.ensures))))

pub returns-in_err-all : goal.returns-in_err-all
unfolding fill_execution
returns-in_err-all c = λ known table.
    let s0 = c.in_ok-id.ensures known table in
    let s1 = next_gives known _ c.text_if.new.filler c.in_ok-id.id c.text_if.result c.in_ok-bound.bound (c.text_if.ensures known s0.1) c.in_ok-bound.ensures in
    let s2 = next_gives known _ c.fill_texts.new.filler c.in_ok-bound.bound c.fill_texts.result c.in_ok-runs.runs (c.fill_texts.ensures known s1.1) c.in_ok-runs.ensures in
    let fault = c.in_err-all.field-0.0 in
    let p = err_from_is_err_and c.from_residual-in_err-all.result c.from_residual-in_err-all.ensures.1 in
    exit_gives _ known c.fill_configuration.new.filler fault p.0 c.from_residual-in_err-all.result p.1 p.2 (chain_fails fault _ s0.0 (chain_fails fault _ s1.0 (chain_fails fault _ s2.0 (stop_fails _ fault _ (next_fails known _ c.fill_configuration.new.filler c.in_ok-runs.runs c.fill_configuration.result fault (c.fill_configuration.ensures known s2.1) c.in_err-all.ensures)))))

pub returns : goal.returns
unfolding fill_execution
returns c = λ known table.
    let s0 = c.in_ok-id.ensures known table in
    let s1 = next_gives known _ c.text_if.new.filler c.in_ok-id.id c.text_if.result c.in_ok-bound.bound (c.text_if.ensures known s0.1) c.in_ok-bound.ensures in
    let s2 = next_gives known _ c.fill_texts.new.filler c.in_ok-bound.bound c.fill_texts.result c.in_ok-runs.runs (c.fill_texts.ensures known s1.1) c.in_ok-runs.ensures in
    let s3 = next_gives known _ c.fill_configuration.new.filler c.in_ok-runs.runs c.fill_configuration.result c.in_ok-all.all (c.fill_configuration.ensures known s2.1) c.in_ok-all.ensures in
    let q2 = sym s3.2 in
    let q1 = sym s2.2 ∙ (λ i. (q2 i).0) in
    let q0 = sym s1.2 ∙ (λ i. (q1 i).0) in
    (chain _ s0.0 (chain _ s1.0 (chain _ s2.0 (chain _ s3.0 refl))) ∙ (λ i. Ok (record { id = q0 i; phase = (q1 i).1; goals = (q2 i).1; inherited = c.args.self.now.inherited; configuration = c.in_ok-all.all.1 })), s3.1)
