use Rattle.std.proofs.Common.{Ok, sym, ap, ◌∙◌}
use Rattle.interpolation.specs.Filling.{each, fill_setting}
use Rattle.interpolation.proofs.settings.fill_configuration.Goals as goal

pub returns-in_ok-new-in-Ok : goal.returns-in_ok-new-in-Ok
returns-in_ok-new-in-Ok c = λ known table.
    let gives = c.in-Ok.ensures known table in
    (sym (ap (each (fill_setting known)) c.value.ensures) ∙ gives.0 ∙ ap (λ x. Ok x) (sym c.in_ok-new-in-Ok.ensures), gives.1)
