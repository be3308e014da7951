use Rattle.std.proofs.Common.{None, slice_set, sym, subst, ap, ◌∙◌}
use Rattle.event_core.specs.declared.module_steps.Progress.TheVariants.{Running}
use Rattle.scripts.specs.Scripts.{settled}
use Rattle.scripts.specs.Outlines.{is_empty}
use Rattle.event_core.specs.Standing.{on_course, start_of, turned_to}
use Rattle.event_core.specs.Kept.{course_at, standing_in}
use Rattle.event_core.proofs.HeldAt.{turned_holding}
use Rattle.event_core.specs.Holders.{CourseHolds}
use Rattle.event_core.proofs.standing.Standing.start.Goals as goal

pub returns-clause-at : goal.returns-clause-at
returns-clause-at c =
    let o = c.args.outline.now in
    let now = standing_in o c.args.self.now in
    let begun =
    c.begun-course.ensures.at
    ∙ ap (λ there. on_course c.args.number (settled there c.holds_none-empty.result (start_of o c.args.number)) None) c.as_slice.ensures.value
    ∙ ap (λ empty. on_course c.args.number (settled now.there empty (start_of o c.args.number)) None) (c.holds_none-empty.ensures o) in
    c.turn.ensures.at o
    ∙ ap (λ progress. turned_to (record now { progress = progress }) c.args.worker (course_at o c.begun-course.result)) (ap (λ ms. ms.1) c.set.ensures)
    ∙ ap (turned_to (record now { progress = slice_set now.progress c.args.number (Running c.args.worker) }) c.args.worker) begun

pub returns-clause-holding : goal.returns-clause-holding
returns-clause-holding c = λ holding none.
    let o = c.args.outline.now in
    let old = c.args.self.now in
    let begun = subst (CourseHolds o c.begun-course.result) (sym none) (c.begun-course.ensures.held (c.holds_none-empty.ensures o ∙ ap is_empty none)) in
    let parts = turned_holding o old.courses.items c.turn.new.self.courses.items old.holdings.1 c.turn.new.self.holdings.1 c.args.worker c.begun-course.result c.turn.ensures.courses (ap (λ h. h.1) c.turn.ensures.holdings) holding.all holding.courses holding.rows begun in
    record { all = parts.0; courses = parts.1; rows = parts.2 }
