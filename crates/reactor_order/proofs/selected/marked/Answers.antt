use Rattle.std.proofs.Common.{get_or}
use Rattle.reactor_order.proofs.Marking.{has_at}
use Rattle.reactor_order.proofs.selected.marked.Goals as goal

pub bounds-marks-m : goal.bounds-marks-m
bounds-marks-m c = c.requires (get_or c.args.order.now c.loop-m.m-index 0) (has_at c.args.order.now c.loop-m.m-index 0 c.loop-m-test.true)
