use Rattle.std.proofs.Common.{sym, ap, ◌∙◌}
use Rattle.event_core.specs.Standing.{ended, module_of}
use Rattle.event_core.specs.Kept.{standing_in}
use Rattle.event_core.proofs.standing.Standing.close.Goals as goal

pub set-requires-clause-low : goal.set-requires-clause-low
set-requires-clause-low c =
    let o = c.requires.running.0 in
    (c.requires.running.1 c.in-Some.number (sym (sym c.in-Some.is ∙ c.module.ensures o ∙ ap module_of (c.course.ensures.at o)))).0

pub set-requires-clause-open : goal.set-requires-clause-open
set-requires-clause-open c =
    let o = c.requires.running.0 in
    (c.requires.running.1 c.in-Some.number (sym (sym c.in-Some.is ∙ c.module.ensures o ∙ ap module_of (c.course.ensures.at o)))).1

pub returns-in-Some-clause-at : goal.returns-in-Some-clause-at
returns-in-Some-clause-at c = λ outline.
    let now = standing_in outline c.args.self.now in
    let is = sym (sym c.in-Some.is ∙ c.module.ensures outline ∙ ap module_of (c.course.ensures.at outline)) in
    ap (λ progress. record now { progress = progress }) (ap (λ ms. ms.1) c.set.ensures ∙ ap (λ m. ended m c.args.ending now.progress) (sym is))

pub returns-in-None-clause-at : goal.returns-in-None-clause-at
returns-in-None-clause-at c = λ outline.
    let now = standing_in outline c.args.self.now in
    let is = sym (sym c.in-None.is ∙ c.module.ensures outline ∙ ap module_of (c.course.ensures.at outline)) in
    ap (λ progress. record now { progress = progress }) (ap (λ m. ended m c.args.ending now.progress) (sym is))
