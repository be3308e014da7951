use Rattle.std.proofs.Common.{subst, sym, ◌∙◌}
use Rattle.collector.specs.Nodes.{HasMore}
use Rattle.collector.specs.Parts.{IsPart}
use Rattle.collector.proofs.Splits.{more_left, more_right}
use Rattle.collector.proofs.put.+put.Goals as goal

pub with_right-requires : goal.with_right-requires
with_right-requires t c =
    more_right c.args.hash c.in-Fork.bit c.in-Fork.left.value c.in-Fork.right.value c.in_ok-more-in-Fork.more c.args.one.now c.requires
    (subst IsPart c.in-Fork.is c.node.invariant) (sym c.leads_right.ensures ∙ c.if-leads_right.true)
    (subst (λ old. HasMore old c.args.one.now c.in_ok-more-in-Fork.more) c.deref.ensures c.in_ok-more-in-Fork.ensures)

pub with_left-requires : goal.with_left-requires
with_left-requires t c =
    more_left c.args.hash c.in-Fork.bit c.in-Fork.left.value c.in-Fork.right.value c.in_ok-more-in-Fork-2.more c.args.one.now c.requires
    (subst IsPart c.in-Fork.is c.node.invariant) (sym c.leads_right.ensures ∙ c.if-leads_right.false)
    (subst (λ old. HasMore old c.args.one.now c.in_ok-more-in-Fork-2.more) c.deref-else-leads_right.ensures c.in_ok-more-in-Fork-2.ensures)
