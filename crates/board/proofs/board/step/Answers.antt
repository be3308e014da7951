use Rattle.board.proofs.Steps.{no_why}
use Rattle.board.proofs.board.step.Goals as goal

pub unreachable-requires : goal.unreachable-requires
unreachable-requires c = no_why c.args.core.now.0 c.args.core.now.1 c.args.event c.in-Err.field-0 c.requires c.in-Err.ensures.err.0
