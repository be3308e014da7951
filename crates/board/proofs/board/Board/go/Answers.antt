use Rattle.scripts.specs.Outlines.{outline_of}
use Rattle.event_core.specs.Runs.{events_of}
use Rattle.board.proofs.Steps.{no_why}
use Rattle.board.proofs.board.Board.go.Goals as goal

pub unreachable-requires : goal.unreachable-requires
unreachable-requires g c = no_why (outline_of c.args.self.now.plan) (events_of c.args.self.now.log) c.args.event c.in-Err.field-0 c.requires.may c.in-Err.ensures.err.0
