use Rattle.std.proofs.Common.{◌-◌, ◌++◌, sym, ◌∙◌, ap, map, append-nil}
use Rattle.std.proofs.lemmas.List.{drop_all}
use Rattle.pom_model.specs.AnyNames.{all_in, setting_of, settings_within}
use Rattle.pom_model.proofs.Settings.{settings_zero, settings_more}
use Rattle.pom_model.proofs.setting.+settings_within.Goals as goal

pub returns-then-depth-eq0 : goal.returns-then-depth-eq0
returns-then-depth-eq0 t c = c.new-settings.ensures ∙ sym (settings_zero c.args.depth c.args.nodes.now c.args.ks.now c.if-depth-eq0.true)

pub returns : goal.returns
returns t c =
    let nodes = c.args.nodes.now in
    let ks = c.args.ks.now in
    let done = drop_all c.loop-k.k-index ks c.loop-k-test.false in
    sym (append-nil c.loop-k.settings) ∙ ap (λ l. c.loop-k.settings ++ map (setting_of (settings_within (c.args.depth - 1) nodes)) (all_in nodes l)) (sym done) ∙ c.loop-k.invariant ∙ sym (settings_more c.args.depth nodes ks c.if-depth-eq0.false)
