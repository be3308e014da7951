use Rattle.std.proofs.Common.{slice_set, ap, ◌∙◌}
use Rattle.event_core.specs.Standing.{idle, turned_to}
use Rattle.event_core.proofs.HeldAt.{turned_holding}
use Rattle.event_core.specs.declared.course.Course.TheVariants.{Idle}
use Rattle.event_core.proofs.standing.Standing.end.Goals as goal

pub returns-clause-at : goal.returns-clause-at
returns-clause-at c = λ outline. c.turn.ensures.at outline ∙ ap (λ now. turned_to now c.args.worker idle) (c.close.ensures.at outline)

pub returns-clause-holding : goal.returns-clause-holding
returns-clause-holding c = λ o holding none.
    let old = c.args.self.now in
    let courses = c.turn.ensures.courses ∙ ap (λ courses. slice_set courses.items c.args.worker Idle) c.close.ensures.courses in
    let held = ap (λ h. h.1) (c.turn.ensures.holdings ∙ c.close.ensures.holdings) in
    let parts = turned_holding o old.courses.items c.turn.new.self.courses.items old.holdings.1 c.turn.new.self.holdings.1 c.args.worker Idle courses held holding.all holding.courses holding.rows none in
    record { all = parts.0; courses = parts.1; rows = parts.2 }
