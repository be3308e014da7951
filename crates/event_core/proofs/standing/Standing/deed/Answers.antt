use Rattle.std.proofs.Common.{ap, sym, subst, ◌∙◌}
use Rattle.event_core.specs.Standing.{after_deed, held_by, turned_to}
use Rattle.event_core.specs.Kept.{course_at, standing_in}
use Rattle.event_core.specs.Holders.{CourseHolds}
use Rattle.event_core.specs.Enabled.{is_due}
use Rattle.event_core.proofs.standing.Standing.deed.Goals as goal

pub returns-clause-at : goal.returns-clause-at
returns-clause-at c =
    let o = c.args.outline.now in
    let now = standing_in o c.args.self.now in
    let held = held_by now c.args.worker in
    c.turn.ensures.at o
    ∙ ap (turned_to now c.args.worker) (
    c.after_deed-course.ensures.at held (c.holds_none-empty.ensures o)
    ∙ ap (λ there. after_deed there held c.args.deed c.args.answer (course_at o c.course-course.result)) c.as_slice.ensures.value
    ∙ ap (after_deed now.there held c.args.deed c.args.answer) (c.course-course.ensures.at o))

pub returns-clause-holding : goal.returns-clause-holding
returns-clause-holding c =
    let o = c.args.outline.now in
    let now = standing_in o c.args.self.now in (
      c.after_deed-course.result,
      c.turn.ensures.courses,
      λ before holds due changed.
          c.after_deed-course.ensures.held before (held_by now c.args.worker) (subst (λ x. CourseHolds o x before) (sym c.course-course.ensures.item) holds) (ap (λ x. is_due x c.args.deed) (c.course-course.ensures.at o) ∙ due) changed (c.holds_none-empty.ensures o),
    )
