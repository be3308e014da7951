use Rattle.std.proofs.Common.{rules, Some, ◌∷◌, sym, ap, ◌∙◌}
use Rattle.atomic_table.specs.Table.{rest}
use Rattle.turn_lock.proofs.Steps.{even_of, takes_turn}
use Rattle.turn_lock.proofs.lock.TurnLock.try_take.Goals as goal

pub fetch_or-found-requires : goal.fetch_or-found-requires
fetch_or-found-requires g c =
    let free = ap (λ v. v.2.turn) c.pass.view_is ∙ c.requires.free in
    (search rules, search rules, λ s r long at small. takes_turn g.V.Kept.fixed g.V.Kept.log g.V.Kept.count g.V.Kept.role c.pass.inside.seat.id c.pass.inside.seat.me free c.pass.invariant.1 s r at small)

pub exchange-requires : goal.exchange-requires
exchange-requires g c =
    let told = c.fetch_or-found.ensures.2.0 (even_of c.fetch_or-found.result c.if-found-eq1.false) in
    let carried = ap (λ m. m.1) told.2 in
    (search rules, (Some told.0, carried ∙ ap (λ t. (0, Some told.0) ∷ rest t) (sym carried)))
