use Rattle.std.proofs.Common.{get_or, rules}
use Rattle.std.specs.Int.RustNames.{bit_or}
use mathlib.Core.Option as core
use Rattle.atomic_table.specs.Table.{step}
use Rattle.turn_lock.proofs.Steps.{asks_only}
use Rattle.turn_lock.proofs.lock.TurnLock.ask.Goals as goal

pub fetch_or-found-requires : goal.fetch_or-found-requires
fetch_or-found-requires g c = (search rules, search rules, λ s r long at small. asks_only g.V.Kept.fixed g.V.Kept.log g.V.Kept.count g.V.Kept.role c.args.word (bit_or (get_or s.words c.args.word 0) 1) (get_or s.words c.args.word 0) (step 1 c.args.word 1 0 core.none) c.pass.inside.seat.id c.pass.inside.seat.me s c.requires.word.0 r at)
