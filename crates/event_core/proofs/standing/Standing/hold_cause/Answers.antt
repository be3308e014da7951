use Rattle.std.proofs.Common.{None, sym, ◌∙◌}
use Rattle.scripts.specs.declared.deed.Deed.TheVariants.{Take}
use Rattle.event_core.specs.declared.refused.NotEnabled.TheVariants.{Stage, Unordered}
use Rattle.event_core.specs.Standing.{course_of, held_by}
use Rattle.event_core.specs.Enabled.{is_due}
use Rattle.event_core.specs.Causes.{not_below, stage_at, unless}
use Rattle.event_core.specs.Kept.{standing_in}
use Rattle.event_core.proofs.Firsts.{found_first, found_none}
use Rattle.event_core.proofs.standing.Standing.hold_cause.Goals as goal

pub returns-in-Some : goal.returns-in-Some
returns-in-Some c =
    let o = c.args.outline.now in
    let now = standing_in o c.args.self.now in
    let course = course_of now c.args.worker in
    found_first (not_below c.args.name (held_by now c.args.worker)) (λ h. Unordered h) (unless (is_due course (Take c.args.mode c.args.name)) (Stage (stage_at course)) None) c.in-Some.cause (sym c.in-Some.is ∙ c.order_cause.ensures o)

pub returns-in-None : goal.returns-in-None
returns-in-None c =
    let o = c.args.outline.now in
    let now = standing_in o c.args.self.now in
    let course = course_of now c.args.worker in
    c.deed_cause.ensures
    ∙ found_none (not_below c.args.name (held_by now c.args.worker)) (λ h. Unordered h) (unless (is_due course (Take c.args.mode c.args.name)) (Stage (stage_at course)) None) (sym c.in-None.is ∙ c.order_cause.ensures o)
