use Rattle.std.proofs.lemmas.Bool.{iff_false}
use Rattle.collector.proofs.Splits.{sides, split}
use Rattle.collector.proofs.put.divided.Goals as goal

pub leaves-requires : goal.leaves-requires
leaves-requires c =
    split c.args.bit c.args.items c.in_ok-left.left c.in_ok-right.right c.in_ok-left.ensures c.in_ok-right.ensures
    (iff_false c.is_empty.ensures c.if-is_empty.false) (iff_false c.is_empty-else-is_empty.ensures c.if-is_empty-2.false)

pub returns : goal.returns
returns c =
    sides c.args.bit c.args.items c.in_ok-left.left c.in_ok-right.right c.in_ok-leaves.field-0 c.in_ok-left.ensures c.in_ok-right.ensures
    c.in_ok-leaves.ensures
