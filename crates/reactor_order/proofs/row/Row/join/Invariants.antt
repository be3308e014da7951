use Rattle.reactor_order.proofs.Bits.{Joins}
use Rattle.reactor_order.proofs.row.Row.join.Given as goal

abbrev pub invariant-loop-at : goal.invariant-loop-at
invariant-loop-at l = Joins l.initial.self-inside.words.items l.more-inside.words.items l.at l.self-inside.words.items
