use Rattle.std.proofs.Common.{◌&&◌, sym, ap, ◌∙◌}
use Rattle.event_core.specs.Standing.{course_of}
use Rattle.event_core.specs.Enabled.{may_end_so}
use Rattle.event_core.specs.Kept.{standing_in}
use Rattle.event_core.proofs.standing.Standing.may_end.Goals as goal

pub returns-then-holds_none : goal.returns-then-holds_none
returns-then-holds_none c =
    let o = c.args.outline.now in
    c.may_end.ensures
    ∙ ap (λ course. may_end_so o course c.args.ending) (c.course.ensures.at o)
    ∙ ap (λ b. b && may_end_so o (course_of (standing_in o c.args.self.now) c.args.worker) c.args.ending) (sym (sym (c.holds_none.ensures o) ∙ c.if-holds_none.true))

pub returns-else-holds_none : goal.returns-else-holds_none
returns-else-holds_none c =
    let o = c.args.outline.now in
    c.if-holds_none.false
    ∙ ap (λ b. b && may_end_so o (course_of (standing_in o c.args.self.now) c.args.worker) c.args.ending) (sym (sym (c.holds_none.ensures o) ∙ c.if-holds_none.false))
