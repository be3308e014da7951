use Rattle.std.proofs.Common.{◌≡◌, [], get_or, arith, ap, sym, subst, ◌∙◌}
use Rattle.scripts.specs.Climbing.{but}
use Rattle.event_core.specs.Standing.{after_free, free_done, held_by, turned_to}
use Rattle.scripts.specs.Outlines.{is_empty}
use Rattle.event_core.specs.Kept.{course_at, standing_in}
use Rattle.std.proofs.lemmas.List.{get_or-set_same}
use Rattle.event_core.proofs.HeldAt.{changed_holding}
use Rattle.event_core.specs.Holders.{CourseHolds}
use Rattle.event_core.proofs.standing.Standing.free.Goals as goal

pub returns-clause-at : goal.returns-clause-at
returns-clause-at c =
    let o = c.args.outline.now in
    let now = standing_in o c.args.self.now in
    let mid = record now { held = c.free.new.self.1; locks = c.free.new.self.0 } in
    let held = held_by mid c.args.worker in
    c.turn.ensures.at o
    ∙ ap (turned_to mid c.args.worker) (
    c.after_free-course.ensures.at held (c.holds_none-empty.ensures o)
    ∙ ap (λ there. after_free o there held (course_at o c.course-course.result)) c.as_slice.ensures.value
    ∙ ap (after_free o now.there held) (c.course-course.ensures.at o))
    ∙ ap (λ h. free_done o (record now { held = h.1; locks = h.0 }) c.args.worker) c.free.ensures

pub returns-clause-holding : goal.returns-clause-holding
returns-clause-holding c = λ holding low listed.
    let o = c.args.outline.now in
    let old = c.args.self.now in
    let w = c.args.worker in
    let n = c.args.name in
    let before = old.holdings.1 in
    let now = record (standing_in o old) { held = c.free.new.self.1; locks = c.free.new.self.0 } in
    let names = but n (get_or before w []) in
    let row : held_by now w ≡ names = ap (λ h. get_or h.1 w []) c.free.ensures ∙ get_or-set_same before w names [] (omega (arith, low, holding.rows)) in
    let empty = c.holds_none-empty.ensures o ∙ ap is_empty row in
    let here = c.after_free-course.ensures.held (get_or before w []) n (subst (λ x. CourseHolds o x (get_or before w [])) (sym c.course-course.ensures.item) (holding.all w low)) listed empty in
    let held = ap (λ h. h.1) c.turn.ensures.holdings ∙ ap (λ h. h.1) c.free.ensures in
    let parts = changed_holding o old.courses.items c.turn.new.self.courses.items before c.turn.new.self.holdings.1 w c.after_free-course.result names c.turn.ensures.courses held holding.all holding.courses holding.rows here in
    record { all = parts.0; courses = parts.1; rows = parts.2 }
