use Rattle.std.proofs.Common.{Some, sym, ap, ◌∙◌}
use mathlib.Core.Option.{some-injective}
use Rattle.std.specs.Slots.{slots_items}
use Rattle.turn_lock.proofs.Cuts.{closed_value}
use Rattle.turn_lock.proofs.Steps.{some_same}
use Rattle.turn_lock.proofs.lock.TurnLock.close.Goals as goal

pub whole-requires : goal.whole-requires
whole-requires g c =
    let k = g.V.Kept in
    let seat = c.pass.inside.seat in
    let free = ap (λ x. x.2.turn) c.pass.view_is ∙ c.requires.free.0 in
    let whole = ap (λ x. x.2.weight) c.pass.view_is ∙ c.requires.whole ∙ sym (ap (λ x. x.2.workers) c.pass.view_is) in
    let it = closed_value k.fixed k.log k.count k.role seat.id seat.me.0 c.pass.invariant.1 free whole (slots_items c.close_with-closed.result.words) (slots_items c.close_with-closed.result.slots) c.close_with-closed.ensures.values.2 in
    (it.0, some-injective c.take-value.result (Some it.0) (sym c.take-value.ensures.value ∙ it.1))

pub returns-clause-fixed : goal.returns-clause-fixed
returns-clause-fixed g c =
    let k = g.V.Kept in
    let seat = c.pass.inside.seat in
    let free = ap (λ x. x.2.turn) c.pass.view_is ∙ c.requires.free.0 in
    let whole = ap (λ x. x.2.weight) c.pass.view_is ∙ c.requires.whole ∙ sym (ap (λ x. x.2.workers) c.pass.view_is) in
    let it = closed_value k.fixed k.log k.count k.role seat.id seat.me.0 c.pass.invariant.1 free whole (slots_items c.close_with-closed.result.words) (slots_items c.close_with-closed.result.slots) c.close_with-closed.ensures.values.2 in
    let same = some_same (c.whole.ensures ∙ some-injective c.take-value.result (Some it.0) (sym c.take-value.ensures.value ∙ it.1)) in
    ap (λ y. Some (k.fixed y)) same ∙ it.2 ∙ ap (λ x. x.2.fixed) c.pass.view_is

pub returns-clause-workers : goal.returns-clause-workers
returns-clause-workers g c =
    let k = g.V.Kept in
    let seat = c.pass.inside.seat in
    let free = ap (λ x. x.2.turn) c.pass.view_is ∙ c.requires.free.0 in
    let whole = ap (λ x. x.2.weight) c.pass.view_is ∙ c.requires.whole ∙ sym (ap (λ x. x.2.workers) c.pass.view_is) in
    let it = closed_value k.fixed k.log k.count k.role seat.id seat.me.0 c.pass.invariant.1 free whole (slots_items c.close_with-closed.result.words) (slots_items c.close_with-closed.result.slots) c.close_with-closed.ensures.values.2 in
    let same = some_same (c.whole.ensures ∙ some-injective c.take-value.result (Some it.0) (sym c.take-value.ensures.value ∙ it.1)) in
    ap k.count same ∙ it.3 ∙ ap (λ x. x.2.workers) c.pass.view_is

pub returns-clause-log : goal.returns-clause-log
returns-clause-log g c =
    let k = g.V.Kept in
    let seat = c.pass.inside.seat in
    let free = ap (λ x. x.2.turn) c.pass.view_is ∙ c.requires.free.0 in
    let whole = ap (λ x. x.2.weight) c.pass.view_is ∙ c.requires.whole ∙ sym (ap (λ x. x.2.workers) c.pass.view_is) in
    let it = closed_value k.fixed k.log k.count k.role seat.id seat.me.0 c.pass.invariant.1 free whole (slots_items c.close_with-closed.result.words) (slots_items c.close_with-closed.result.slots) c.close_with-closed.ensures.values.2 in
    let same = some_same (c.whole.ensures ∙ some-injective c.take-value.result (Some it.0) (sym c.take-value.ensures.value ∙ it.1)) in
    ap k.log same ∙ it.4 ∙ ap (λ x. x.2.seen) c.pass.view_is
