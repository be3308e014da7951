use Rattle.std.proofs.Common.{arith}
use Rattle.reactor_order.proofs.Bits.{in_only}
use Rattle.reactor_order.proofs.row.only.Goals as goal

pub returns : goal.returns
returns c = λ i low. in_only c.args.word c.args.less i (omega (arith, c.ranges.less.fits)) low
