use Rattle.std.proofs.Common.{arith, sym, ◌∙◌}
use Rattle.build_core.specs.Locks.{blocks_in}
use Rattle.build_core.proofs.Tables.{found_at, not_yet}
use Rattle.build_core.proofs.table.least.Goals as goal

pub returns-then-blocks_at : goal.returns-then-blocks_at
returns-then-blocks_at c = sym (found_at (blocks_in c.args.row.now c.args.worker c.args.mode) c.loop-other.other c.args.workers c.loop-other.invariant (sym c.blocks_at.ensures ∙ c.if-blocks_at.true) (omega (arith, c.loop-other-test.true)))

pub loop-other-preserved : goal.loop-other-preserved
loop-other-preserved c = not_yet (blocks_in c.args.row.now c.args.worker c.args.mode) c.loop-other.other c.loop-other.invariant (sym c.blocks_at.ensures ∙ c.if-blocks_at.false)
