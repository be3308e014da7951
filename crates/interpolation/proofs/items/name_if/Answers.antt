use Rattle.std.proofs.Common.{refl, ap, ◌∙◌}
use Rattle.interpolation.specs.Filling.{if_there}
use Rattle.interpolation.specs.Texts.{name_of}
use Rattle.interpolation.proofs.Lists.{chain}
use Rattle.interpolation.proofs.items.name_if.Goals as goal

pub returns-in-Ok : goal.returns-in-Ok
returns-in-Ok c = λ known table.
    let gives = c.in-Ok.ensures known table in
    (ap (if_there (name_of known c.args.element.now)) c.in-Some.is ∙ chain _ gives.0 refl, gives.1)
