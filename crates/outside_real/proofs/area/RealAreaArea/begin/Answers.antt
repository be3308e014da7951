use Rattle.std.proofs.Common.{◌≡◌, Bool, false, Option, Some, None, is_some, refl, sym, ◌∙◌}
use Rattle.mvn_outside.proofs.NumberMaps.{value_of, get_value, one_put}
use Rattle.outside_real.proofs.area.RealAreaArea.begin.Goals as goal

no_value : (o : Option Bool) → is_some o ≡ false → o ≡ None
no_value None e = refl
no_value (Some v) e = cc

pub returns-in-Ok-clause-fresh : goal.returns-in-Ok-clause-fresh
returns-in-Ok-clause-fresh g c =
    let es = c.args.self.now.pieces.entries in
    get_value es c.in_ok-piece.piece ∙ no_value (value_of es c.in_ok-piece.piece) (sym c.contains_key.ensures ∙ c.if-contains_key.false)

pub returns-in-Ok-clause-open : goal.returns-in-Ok-clause-open
returns-in-Ok-clause-open g c =
    one_put c.args.self.now.pieces.entries c.insert-2.new.self.entries c.in_ok-piece.piece false c.in-Ok.ensures.updates.0
