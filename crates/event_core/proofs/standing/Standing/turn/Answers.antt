use Rattle.std.proofs.Common.{map, ap, ◌∙◌}
use Rattle.std.proofs.lemmas.List.{map-set}
use Rattle.event_core.specs.Kept.{course_at, standing_in}
use Rattle.event_core.proofs.standing.Standing.turn.Goals as goal

pub returns-clause-at : goal.returns-clause-at
returns-clause-at c = λ outline.
    ap (λ courses. record (standing_in outline c.args.self.now) { courses = courses }) (ap (map (course_at outline)) c.set_course.ensures ∙ map-set (course_at outline) c.args.self.now.courses.items c.args.worker c.args.course)
