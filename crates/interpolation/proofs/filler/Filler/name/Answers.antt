use Rattle.std.proofs.Common.{sym, ◌∙◌}
use Rattle.interpolation.proofs.ValueLists.{name_there}
use Rattle.interpolation.specs.Texts.{name_of, text_of}
use Rattle.interpolation.proofs.filler.Filler.name.Goals as goal

pub returns-in-None : goal.returns-in-None
unfolding name_of
returns-in-None c = λ known table.
    let gives = c.in_ok-text.ensures known table in
    (name_there (text_of known c.args.place.now c.args.text.now) c.in_ok-text.text gives.0 (sym c.in_ok-name.ensures ∙ c.in-None.is), gives.1)
