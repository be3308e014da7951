use Rattle.reactor_order.proofs.Bits.{in_both}
use Rattle.reactor_order.proofs.row.both.Goals as goal

pub returns : goal.returns
returns c = λ i. in_both c.args.word c.args.more i
