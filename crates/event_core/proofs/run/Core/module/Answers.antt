use Rattle.std.proofs.Common.{ap, ◌∙◌}
use Rattle.event_core.specs.Standing.{course_of, module_of, standing_of}
use Rattle.event_core.proofs.run.Core.module.Goals as goal

pub returns : goal.returns
returns c =
    let o = c.self.inside.outline in
    c.module.ensures o ∙ ap module_of (c.course.ensures.at o) ∙ ap (λ now. module_of (course_of now c.args.worker)) c.self.invariant.same
    ∙ ap (λ v. module_of (course_of (standing_of v.0 v.1) c.args.worker)) c.self.view_is
