use Rattle.std.proofs.Common.{◌≡◌, [], ◌∷◌, ◌++◌, arith, ap, subst, sym, rules, ◌∙◌}
use Rattle.std.specs.Vec.Iter.{into_iter_items}
use Rattle.inheritance.specs.Others.{Stands}
use Rattle.inheritance.proofs.Leading.{no_items, one_behind, nothing_behind}
use Rattle.inheritance.proofs.placing.others_of.Goals as goal

pub loop-plugin-preserved : goal.loop-plugin-preserved
loop-plugin-preserved c =
    let kept = c.loop-plugin.invariant in
    let moved : into_iter_items c.loop-plugin.plugin-iterator ≡ c.in-Some.plugin ∷ into_iter_items c.next.new.self = search rules in
    (kept.0 ++ c.in-Some.plugin ∷ [], (one_behind kept.0 c.in-Some.plugin (into_iter_items c.next.new.self) ∙ ap (λ l. kept.0 ++ l) (sym moved) ∙ kept.1), c.in_ok-others.ensures c.args.parent.now kept.0 c.in_ok-keys.ensures kept.2)

pub returns : goal.returns
returns c =
    let kept = c.loop-plugin.invariant in
    let ended : into_iter_items c.loop-plugin.plugin-iterator ≡ [] = no_items _ (omega (arith, c.in-None.ensures.steps.0, c.loop-plugin.plugin-iterator.rest.ok)) in
    subst (λ l. Stands c.args.parent.now l c.loop-plugin.others.before c.loop-plugin.others.last.items) (sym (nothing_behind kept.0) ∙ ap (λ l. kept.0 ++ l) (sym ended) ∙ kept.1) kept.2
