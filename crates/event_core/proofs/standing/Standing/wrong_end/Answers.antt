use Rattle.std.proofs.Common.{sym, ap, ◌∙◌, if◌then◌else◌}
use Rattle.event_core.specs.declared.refused.NotEnabled.TheVariants.{Stage}
use Rattle.event_core.specs.Standing.{course_of}
use Rattle.event_core.specs.Causes.{free_end, stage_at}
use Rattle.event_core.specs.Kept.{standing_in}
use Rattle.event_core.proofs.standing.Standing.wrong_end.Goals as goal

pub returns-then-holds_none : goal.returns-then-holds_none
returns-then-holds_none c =
    let o = c.args.outline.now in
    let course = course_of (standing_in o c.args.self.now) c.args.worker in
    c.free_end.ensures
    ∙ ap (λ at. free_end at c.args.ending) (c.course-course.ensures.at o)
    ∙ ap (λ b. if b then free_end course c.args.ending else Stage (stage_at course)) (sym (sym (c.holds_none.ensures o) ∙ c.if-holds_none.true))

pub returns-else-holds_none : goal.returns-else-holds_none
returns-else-holds_none c =
    let o = c.args.outline.now in
    let course = course_of (standing_in o c.args.self.now) c.args.worker in
    ap (λ n. Stage n) (c.stage.ensures ∙ ap stage_at (c.course-course.ensures.at o))
    ∙ ap (λ b. if b then free_end course c.args.ending else Stage (stage_at course)) (sym (sym (c.holds_none.ensures o) ∙ c.if-holds_none.false))
