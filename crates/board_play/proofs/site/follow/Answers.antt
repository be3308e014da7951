use Rattle.scripts.specs.Outlines.{outline_of}
use Rattle.event_core.specs.Runs.{events_of}
use Rattle.board_play.proofs.Sites.{never_refused}
use Rattle.board_play.proofs.site.follow.Goals as goal

pub unreachable-requires : goal.unreachable-requires
unreachable-requires g c =
    never_refused c.args.core.now.0 (outline_of c.args.board.now.plan) c.args.core.now.1 (events_of c.args.board.now.log) c.args.event c.in-Err.field-0
    c.requires.plan c.requires.more c.keeps.ensures.run c.in-Err.ensures.err.0
