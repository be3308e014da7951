use Rattle.std.proofs.Common.{◌≡◌, true, false, ap, sym, ◌∙◌}
use Rattle.std.specs.HashSet.{contains}
use Rattle.model_merge.specs.Keyed.{same_key}
use Rattle.model_merge.specs.Keys.{key_of_plugin}
use Rattle.inheritance.specs.Others.{listed}
use Rattle.inheritance.specs.Placing.{is_shared}
use Rattle.inheritance.proofs.Leading.{if_ok_both, other_stands, shared_stands}
use Rattle.inheritance.proofs.placing.Others.next.Goals as goal

pub returns-then-contains : goal.returns-then-contains
returns-then-contains c = λ parent done has stands.
    let shared : is_shared parent c.args.plugin ≡ true = sym (has (key_of_plugin c.args.plugin)) ∙ ap (contains same_key c.args.keys.now) (sym c.in_ok-key.ensures) ∙ sym c.contains.ensures ∙ c.if-contains.true in
    if_ok_both c.before_shared.result (λ others before last. shared_stands parent done c.args.plugin c.in_ok-key.key (listed c.args.self.before) (listed others.before) c.args.self.last.items others.last.items shared c.in_ok-key.ensures stands before last)
    c.before_shared.ensures.before c.before_shared.ensures.last

pub returns : goal.returns
returns c = λ parent done has stands.
    let shared : is_shared parent c.args.plugin ≡ false = sym (has (key_of_plugin c.args.plugin)) ∙ ap (contains same_key c.args.keys.now) (sym c.in_ok-key.ensures) ∙ sym c.contains.ensures ∙ c.if-contains.false in
    if_ok_both c.with.result (λ others before last. other_stands parent done c.args.plugin (listed c.args.self.before) (listed others.before) c.args.self.last.items others.last.items shared stands (λ q. ap (λ m. listed m q) before) last)
    c.with.ensures.before c.with.ensures.last
