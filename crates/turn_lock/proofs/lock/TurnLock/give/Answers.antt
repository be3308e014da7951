use Rattle.std.proofs.Common.{rules, Some, ◌∷◌, sym, ap, subst, ◌∙◌}
use Rattle.atomic_table.specs.Table.{rest}
use Rattle.turn_lock.specs.Passes.{Carries}
use Rattle.turn_lock.specs.Turns.{AddsOne}
use Rattle.turn_lock.proofs.Steps.{gives_turn}
use Rattle.turn_lock.proofs.lock.TurnLock.give.Goals as goal

pub swap-before-requires : goal.swap-before-requires
swap-before-requires g c =
    let is = ap (λ m. m.0) c.exchange.ensures.3 ∙ ap (λ v. v.2) c.pass.view_is in
    let own = ap (λ m. m.0.spent) c.exchange.ensures.3 ∙ c.pass.invariant.1 in
    let taken = c.requires.taken in
    let has_out = ap (λ v. v.2.turn) c.pass.view_is ∙ taken.1 in
    let empty = subst (λ t. Carries t c.pass.inside.seat.me.1) has_out c.pass.invariant.2 in
    let carried = ap (λ m. m.1) c.exchange.ensures.3 ∙ ap (λ t. (0, Some c.args.turn.value) ∷ rest t) empty in
    let adds = subst (λ n. AddsOne g.V.Kept.role n taken.0 (g.V.Kept.log c.args.turn.value)) (sym (ap (λ v. v.number) is)) taken.2 in
    (search rules, search rules, λ s r long at small. gives_turn g.V.Kept.fixed g.V.Kept.log g.V.Kept.count g.V.Kept.role c.exchange.new.seat.id c.exchange.new.seat.me c.args.turn.value c.entries-entries.result taken.0 c.entries-entries.ensures.length own (ap (λ v. v.turn) is ∙ taken.1) carried adds (c.requires.fixed ∙ sym (ap (λ v. v.fixed) is)) (c.requires.workers ∙ sym (ap (λ v. v.workers) is)) c.entries-entries.ensures.few s r at)
