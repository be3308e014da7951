use Rattle.std.proofs.Common.{Ok, refl, sym, ap, ◌∙◌}
use Rattle.std.proofs.lemmas.Result.{err_from_is_err_and}
use Rattle.interpolation.proofs.Lists.{chain, chain_fails, exit_gives, next_fails, next_gives, stop_fails}
use Rattle.interpolation.specs.Filling.{fill_plugin}
use Rattle.interpolation.proofs.items.PluginFill.fill.Goals as goal

pub returns-in_err-key : goal.returns-in_err-key
unfolding fill_plugin
returns-in_err-key c = λ known table.
    let fault = c.in_err-key.field-0.0 in
    let p = err_from_is_err_and c.from_residual.result c.from_residual.ensures.1 in
    exit_gives _ known c.fill_key.new.filler fault p.0 c.from_residual.result p.1 p.2 (stop_fails _ fault _ (c.in_err-key.ensures known table))

pub returns-in_err-needs : goal.returns-in_err-needs
unfolding fill_plugin
returns-in_err-needs c = λ known table.
    let s0 = c.in_ok-key.ensures known table in
    let fault = c.in_err-needs.field-0.0 in
    let p = err_from_is_err_and c.from_residual-in_err-needs.result c.from_residual-in_err-needs.ensures.1 in
    exit_gives _ known c.fill_each.new.filler fault p.0 c.from_residual-in_err-needs.result p.1 p.2 (chain_fails fault _ s0.0 (stop_fails _ fault _ (next_fails known _ c.fill_each.new.filler c.in_ok-key.key c.fill_each.result fault (c.fill_each.ensures known s0.1) c.in_err-needs.ensures)))

pub returns-in_err-runs : goal.returns-in_err-runs
unfolding fill_plugin
returns-in_err-runs c = λ known table.
    let s0 = c.in_ok-key.ensures known table in
    let s1 = next_gives known _ c.fill_each.new.filler c.in_ok-key.key c.fill_each.result c.in_ok-needs.needs (c.fill_each.ensures known s0.1) c.in_ok-needs.ensures in
    let fault = c.in_err-runs.field-0.0 in
    let p = err_from_is_err_and c.from_residual-in_err-runs.result c.from_residual-in_err-runs.ensures.1 in
    exit_gives _ known c.fill_each-2.new.filler fault p.0 c.from_residual-in_err-runs.result p.1 p.2 (chain_fails fault _ s0.0 (chain_fails fault _ s1.0 (stop_fails _ fault _ (next_fails known _ c.fill_each-2.new.filler c.in_ok-needs.needs c.fill_each-2.result fault (c.fill_each-2.ensures known s1.1) c.in_err-runs.ensures))))

pub returns-in_err-all : goal.returns-in_err-all
unfolding fill_plugin
returns-in_err-all c = λ known table.
    let s0 = c.in_ok-key.ensures known table in
    let s1 = next_gives known _ c.fill_each.new.filler c.in_ok-key.key c.fill_each.result c.in_ok-needs.needs (c.fill_each.ensures known s0.1) c.in_ok-needs.ensures in
    let s2 = next_gives known _ c.fill_each-2.new.filler c.in_ok-needs.needs c.fill_each-2.result c.in_ok-runs.runs (c.fill_each-2.ensures known s1.1) c.in_ok-runs.ensures in
    let fault = c.in_err-all.field-0.0 in
    let p = err_from_is_err_and c.from_residual-in_err-all.result c.from_residual-in_err-all.ensures.1 in
    exit_gives _ known c.fill_configuration.new.filler fault p.0 c.from_residual-in_err-all.result p.1 p.2 (chain_fails fault _ s0.0 (chain_fails fault _ s1.0 (chain_fails fault _ s2.0 (stop_fails _ fault _ (next_fails known _ c.fill_configuration.new.filler c.in_ok-runs.runs c.fill_configuration.result fault (c.fill_configuration.ensures known s2.1) c.in_err-all.ensures)))))

pub returns : goal.returns
unfolding fill_plugin
returns c = λ known table.
    let s0 = c.in_ok-key.ensures known table in
    let s1 = next_gives known _ c.fill_each.new.filler c.in_ok-key.key c.fill_each.result c.in_ok-needs.needs (c.fill_each.ensures known s0.1) c.in_ok-needs.ensures in
    let s2 = next_gives known _ c.fill_each-2.new.filler c.in_ok-needs.needs c.fill_each-2.result c.in_ok-runs.runs (c.fill_each-2.ensures known s1.1) c.in_ok-runs.ensures in
    let s3 = next_gives known _ c.fill_configuration.new.filler c.in_ok-runs.runs c.fill_configuration.result c.in_ok-all.all (c.fill_configuration.ensures known s2.1) c.in_ok-all.ensures in
    let q2 = sym s3.2 in
    let q1 = sym s2.2 ∙ (λ i. (q2 i).0) in
    let q0 = sym s1.2 ∙ (λ i. (q1 i).0) in
    (chain _ s0.0 (chain _ s1.0 (chain _ s2.0 (chain _ s3.0 refl))) ∙ (λ i. Ok (record { group = (q0 i).group; artifact = (q0 i).artifact; version = (q0 i).version; inherited = c.args.self.now.inherited; dependencies = (q1 i).1; executions = (q2 i).1; configuration = c.in_ok-all.all.1 })), s3.1)
