use Rattle.reactor_order.proofs.Bits.{shr_bit}
use Rattle.reactor_order.proofs.row.has_bit.Goals as goal

pub returns : goal.returns
returns c = shr_bit c.args.word c.args.place
