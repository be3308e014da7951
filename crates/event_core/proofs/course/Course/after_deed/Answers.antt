use Rattle.std.proofs.Common.{refl, subst, ◌∙◌}
use Rattle.event_core.specs.Holders.{CourseHolds}
use Rattle.scripts.specs.HeldAt.{RestHoldsBehind}
use Rattle.event_core.proofs.HeldAt.{then_held}
use Rattle.event_core.proofs.course.Course.after_deed.Goals as goal

pub returns-in-Some-clause-held : goal.returns-in-Some-clause-held
returns-in-Some-clause-held c = λ before held holds due changed e. λ m at.
    let here = c.of.ensures.held before (subst (λ course. CourseHolds c.args.outline.now course before) c.in-On.is holds) in
    let owner = c.in-Some.ensures.owner c.in-Some.next refl ∙ c.of.ensures.owner in
    c.settled.ensures.held held e (then_held c.args.deed before held (RestHoldsBehind c.in-Some.next) changed (c.in-Some.ensures.held before here c.in-Some.next refl)) m (owner ∙ at)
