use Rattle.std.proofs.Common.{◌<◌, [], length, subst, sym, ap, ◌∙◌, arith}
use Rattle.std.proofs.lemmas.List.{get_or_default}
use Rattle.std.specs.Ordering.{is_gt}
use Rattle.versions.specs.Order.{version_cmp}
use Rattle.versions.specs.Requirements.{admits}
use Rattle.versions.specs.Highest.{IsGreatest, IsHighest}
use Rattle.versions.proofs.Greatest.{highest_begins, highest_rises}
use Rattle.versions.proofs.highest.higher.Goals as goal

pub returns-in-None : goal.returns-in-None
returns-in-None c =
    let f = admits c.args.requirement.now in
    let here = c.index-versions-at.is ∙ get_or_default c.args.versions.now c.args.at c.index-versions-at.result [] c.requires.next in
    highest_begins f c.args.versions.now c.args.at (ap f (sym here) ∙ sym c.admits.ensures ∙ c.if-not-admits.false)
    (subst (IsHighest f c.args.versions.now c.args.at) c.in-None.is c.requires.so_far)

pub returns-in-Some : goal.returns-in-Some
returns-in-Some c =
    let f = admits c.args.requirement.now in
    let best = c.in-Some.best in
    let known : IsGreatest f c.args.versions.now c.args.at best = subst (IsHighest f c.args.versions.now c.args.at) c.in-Some.is c.requires.so_far in
    let within : best < length c.args.versions.now = omega (arith, known.within, c.requires.next) in
    let here = c.index-versions-at.is ∙ get_or_default c.args.versions.now c.args.at c.index-versions-at.result [] c.requires.next in
    let there = c.index-versions-best.is ∙ get_or_default c.args.versions.now best c.index-versions-best.result [] within in
    highest_rises f c.args.versions.now c.args.at best (ap f (sym here) ∙ sym c.admits.ensures ∙ c.if-not-admits.false)
    (sym (λ i. is_gt (version_cmp (here i) (there i))) ∙ ap is_gt (sym c.order.ensures.value) ∙ sym c.is_gt.ensures ∙ c.if-is_gt.true) known
