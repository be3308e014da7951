use Rattle.std.proofs.Common.{◌≡◌, ◌++◌, subst, rules}
use Rattle.inheritance.specs.Others.{Stands, listed}
use Rattle.inheritance.proofs.Leading.{inherited_whole}
use Rattle.inheritance.proofs.placing.placed.Goals as goal

pub returns : goal.returns
returns c =
    let others = c.in_ok-before.field-0 in
    let joined : c.push_copies.new.list ≡ c.in_ok-list.list ++ others.last.items = search rules in
    inherited_whole c.args.child.now c.args.parent.now c.in_ok-parents.parents c.in_ok-settled.field-0 c.in_ok-merged.merged c.in_ok-list.list others.last.items c.push_copies.new.list (listed others.before)
    (subst (λ l. Stands l c.in_ok-settled.field-0 others.before others.last.items) c.as_slice.ensures c.in_ok-before.ensures)
    c.in_ok-parents.ensures c.in_ok-settled.ensures c.in_ok-merged.ensures c.in_ok-list.ensures joined
