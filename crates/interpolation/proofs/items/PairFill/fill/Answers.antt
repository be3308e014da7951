use Rattle.std.proofs.Common.{◌≡◌, rules, sym, ap, ◌∙◌}
use Rattle.interpolation.specs.Texts.{text_of}
use Rattle.interpolation.proofs.Lists.{property_done}
use Rattle.interpolation.proofs.items.PairFill.fill.Goals as goal

pub returns-in-Ok : goal.returns-in-Ok
returns-in-Ok c = λ known table.
    let named : c.in_ok-name.name ≡ c.args.self.now.name = search rules in
    let gives = c.in-Ok.ensures known table in
    (property_done known c.args.self.now c.in_ok-name.name c.in-Ok.value named (ap (λ n. text_of known n c.args.self.now.value) (sym c.as_str.ensures.value) ∙ gives.0), gives.1)
