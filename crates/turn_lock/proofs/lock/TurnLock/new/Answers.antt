use Rattle.std.proofs.Common.{◌*◌, [], ◌∷◌, sym, subst}
use Rattle.atomic_table.specs.Table.{opening}
use Rattle.turn_lock.specs.Rule.{IsTurned}
use Rattle.turn_lock.specs.Turns.{first_view}
use Rattle.turn_lock.proofs.Steps.{first_rule}
use Rattle.turn_lock.proofs.lock.TurnLock.new.Goals as goal

pub new-requires : goal.new-requires
new-requires g c =
    let k = g.V.Kept in
    let x = c.args.value in
    subst (λ y. IsTurned k.fixed k.log k.count k.role (opening (2 * c.entries-entries.result ∷ 0 ∷ 0 ∷ []) c.in-Ok.slots.items (first_view (k.log y) (k.fixed y) (k.count y)))) (sym c.of-about.ensures)
    (subst (λ xs. IsTurned k.fixed k.log k.count k.role (opening (2 * c.entries-entries.result ∷ 0 ∷ 0 ∷ []) xs (first_view (k.log x) (k.fixed x) (k.count x)))) (sym c.in-Ok.ensures.ok)
    (first_rule k.fixed k.log k.count k.role x c.entries-entries.result c.entries-entries.ensures.length c.requires.some_worker c.requires.fresh c.entries-entries.ensures.few))
