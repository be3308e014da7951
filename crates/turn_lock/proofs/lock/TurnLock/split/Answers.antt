use Rattle.std.proofs.Common.{◌+◌, ◌≤◌, rules, sym, ap, subst, ◌∙◌}
use Rattle.turn_lock.proofs.Cuts.{cuts}
use Rattle.turn_lock.proofs.lock.TurnLock.split.Goals as goal

pub split_seat-seat-requires : goal.split_seat-seat-requires
split_seat-seat-requires g c =
    let free = ap (λ v. v.2.turn) c.pass.view_is ∙ c.requires.free.0 in
    let clear = ap (λ v. v.2.owed) c.pass.view_is ∙ c.requires.free.1 in
    let wide = subst (λ v. v.2.number + 2 ≤ v.2.reach) (sym c.pass.view_is) c.requires.wide in
    (search rules, search rules, λ s r at. cuts g.V.Kept.fixed g.V.Kept.log g.V.Kept.count g.V.Kept.role c.pass.inside.seat.id c.pass.inside.seat.me.0 c.pass.invariant.1 free clear wide s r at)
