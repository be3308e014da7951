use Rattle.std.proofs.Common.{◌≤◌, length, arith, rules, sym, ap, subst, ◌∙◌}
use Rattle.atomic_table.proofs.Lists.{set_else}
use Rattle.turn_lock.specs.Passes.{Carries}
use Rattle.turn_lock.specs.Turns.{joined}
use Rattle.turn_lock.proofs.Cuts.{first_longer, joins, second_longer}
use Rattle.turn_lock.proofs.lock.TurnLock.absorb.Goals as goal

pub join_seat-requires : goal.join_seat-requires
join_seat-requires g c =
    let v = c.pass.inside.seat.me.0 in
    let w = c.other.inside.seat.me.0 in
    let free = ap (λ x. x.2.turn) c.pass.view_is ∙ c.requires.free.0 in
    let quiet = ap (λ x. x.2.turn) c.other.view_is ∙ c.requires.free.1 in
    let clear = ap (λ x. x.2.owed) c.other.view_is ∙ c.requires.free.2 in
    (search rules, search rules, subst (λ t. Carries t c.other.inside.seat.me.1) quiet c.other.invariant.2, search rules, λ s r at differ at_w. joins g.V.Kept.fixed g.V.Kept.log g.V.Kept.count g.V.Kept.role c.pass.inside.seat.id c.other.inside.seat.id v w c.pass.invariant.1 c.other.invariant.1 free quiet clear s r at differ (sym (set_else s.views c.pass.inside.seat.id c.other.inside.seat.id (joined v w) differ) ∙ at_w))

pub invariant_of-pass : goal.invariant_of-pass
invariant_of-pass g c =
    let v = c.pass.inside.seat.me.0 in
    let w = c.other.inside.seat.me.0 in
    let is = c.join_seat.ensures.2 in
    let short : length v.seen ≤ length w.seen = omega (arith, c.if-pass-entries.true, c.pass.invariant.0, c.other.invariant.0) in (
      c.other.invariant.0 ∙ sym (ap length (second_longer v.seen w.seen short)) ∙ sym (ap (λ m. length m.0.seen) is),
      ap (λ m. m.0.spent) is ∙ c.pass.invariant.1,
      subst (λ m. Carries m.0.turn m.1) (sym is) c.pass.invariant.2,
    )

pub invariant_of-pass-else-pass-entries : goal.invariant_of-pass-else-pass-entries
invariant_of-pass-else-pass-entries g c =
    let v = c.pass.inside.seat.me.0 in
    let w = c.other.inside.seat.me.0 in
    let is = c.join_seat.ensures.2 in (
      c.pass.invariant.0 ∙ sym (ap length (first_longer v.seen w.seen (omega (arith, c.if-pass-entries.false, c.pass.invariant.0, c.other.invariant.0)))) ∙ sym (ap (λ m. length m.0.seen) is),
      ap (λ m. m.0.spent) is ∙ c.pass.invariant.1,
      subst (λ m. Carries m.0.turn m.1) (sym is) c.pass.invariant.2,
    )
