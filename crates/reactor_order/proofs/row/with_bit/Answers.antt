use Rattle.reactor_order.proofs.Bits.{one_more}
use Rattle.reactor_order.proofs.row.with_bit.Goals as goal

pub returns : goal.returns
returns c = λ i. one_more c.args.word c.args.place i c.requires
