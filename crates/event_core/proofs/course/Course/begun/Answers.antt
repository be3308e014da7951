use Rattle.std.proofs.Common.{[], None, refl, ap, ◌∙◌}
use Rattle.scripts.specs.Scripts.{settled}
use Rattle.event_core.specs.Standing.{on_course}
use Rattle.event_core.proofs.Starts.{start_is}
use Rattle.event_core.proofs.course.Course.begun.Goals as goal

pub returns-clause-at : goal.returns-clause-at
returns-clause-at c =
    let o = c.args.outline.now in
    ap (λ s. on_course c.args.number s None) (c.settled.ensures.script o c.args.number c.of-rest.ensures.owner ∙ ap (settled c.args.there.now c.args.empty) (c.of-rest.ensures.script ∙ start_is o c.args.number))

pub returns-clause-held : goal.returns-clause-held
returns-clause-held c = λ e. λ m at. c.settled.ensures.held [] e (c.of-rest.ensures.behind [] (λ m at. refl)) m (c.of-rest.ensures.owner ∙ at)
