use Rattle.std.proofs.Common.{rules}
use Rattle.turn_lock.proofs.Steps.{looks_only}
use Rattle.turn_lock.proofs.lock.TurnLock.look.Goals as goal

pub load-requires : goal.load-requires
load-requires g c = (search rules, search rules, λ s r long at small. looks_only g.V.Kept.fixed g.V.Kept.log g.V.Kept.count g.V.Kept.role c.pass.inside.seat.id c.pass.inside.seat.me c.pass.invariant.1 s r at)
