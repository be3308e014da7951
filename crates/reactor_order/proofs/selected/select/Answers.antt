use Rattle.std.proofs.Common.{◌≡◌, ◌-◌, length, take, drop, subst, sym, ap, ◌∙◌}
use Rattle.std.proofs.lemmas.List.{take_rest}
use Rattle.std.specs.Option.{option_copied}
use Rattle.reactor_order.specs.Graph.{AreBelow}
use Rattle.reactor_order.specs.Select.{Selects}
use Rattle.reactor_order.proofs.Selecting.{selects_all, below_drop}
use Rattle.reactor_order.proofs.selected.select.Goals as goal

pub returns-in_default : goal.returns-in_default
returns-in_default c =
    let order = c.args.order.now in
    subst (λ chosen. Selects order c.args.edges.now (option_copied chosen) c.args.also_make c.args.also_make_dependents c.args.from c.of.result) (sym c.in_default.is)
    (selects_all order c.args.edges.now c.args.also_make c.args.also_make_dependents c.args.from c.of.result
    (c.of.ensures ∙ c.in_ok-all.ensures.items ∙ take_rest order c.from_place.result ∙ c.from_place.ensures.value))

pub marked-requires : goal.marked-requires
marked-requires c =
    let order = c.args.order.now in
    let marks : length c.deref.result.now ≡ length order = ap length c.deref.ensures.value ∙ c.in_ok-marks.ensures.long in
    subst (λ n. AreBelow n (take (length order - c.from_place.result) (drop c.from_place.result order))) (sym marks)
    (subst (AreBelow (length order)) (sym (take_rest order c.from_place.result)) (below_drop (length order) c.from_place.result order c.requires.order))
