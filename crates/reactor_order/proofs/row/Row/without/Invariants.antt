use Rattle.reactor_order.proofs.Bits.{Differs}
use Rattle.reactor_order.proofs.row.Row.without.Given as goal

abbrev pub invariant-loop-at : goal.invariant-loop-at
invariant-loop-at l = Differs l.self-inside.words.items l.less-inside.words.items l.words.items l.at
