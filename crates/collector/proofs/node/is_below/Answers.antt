use Rattle.std.proofs.Common.{ap, subst, sym, ◌∙◌}
use Rattle.std.specs.List.{list_any}
use Rattle.collector.specs.Nodes.{is_same}
use Rattle.collector.specs.Parts.{IsPart, items_of}
use Rattle.collector.proofs.Splits.{left_alone, right_alone}
use Rattle.collector.proofs.node.is_below.Goals as goal

pub loop-at-preserved-then-leads_right : goal.loop-at-preserved-then-leads_right
loop-at-preserved-then-leads_right c =
    let test = is_same c.args.group.now c.args.artifact.now in
    ap (list_any test) c.deref-at.ensures
    ∙ right_alone c.args.hash c.in-Fork.bit c.args.group.now c.args.artifact.now c.in-Fork.left.value c.in-Fork.right.value c.requires
    (subst IsPart c.in-Fork.is c.at.invariant) (sym c.leads_right.ensures ∙ c.if-leads_right.true)
    ∙ ap (list_any test) (sym (ap items_of c.in-Fork.is) ∙ c.at.view_is) ∙ c.loop-at.invariant

pub loop-at-preserved : goal.loop-at-preserved
loop-at-preserved c =
    let test = is_same c.args.group.now c.args.artifact.now in
    ap (list_any test) c.deref-at-else-leads_right.ensures
    ∙ left_alone c.args.hash c.in-Fork.bit c.args.group.now c.args.artifact.now c.in-Fork.left.value c.in-Fork.right.value c.requires
    (subst IsPart c.in-Fork.is c.at.invariant) (sym c.leads_right.ensures ∙ c.if-leads_right.false)
    ∙ ap (list_any test) (sym (ap items_of c.in-Fork.is) ∙ c.at.view_is) ∙ c.loop-at.invariant
