use Rattle.std.proofs.Common.{Ok, sym, ap, ◌∙◌}
use Rattle.interpolation.proofs.items.SharedFill.fill.Goals as goal

pub returns-in_ok-new-in-Ok : goal.returns-in_ok-new-in-Ok
returns-in_ok-new-in-Ok g c = λ known table.
    let gives = c.in-Ok.ensures known table in
    (sym (ap (g.T.Fill.filled known) c.value-item.ensures) ∙ gives.0 ∙ ap (λ x. Ok x) (sym c.in_ok-new-in-Ok.ensures), gives.1)
