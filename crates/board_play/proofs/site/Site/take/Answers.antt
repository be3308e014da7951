use Rattle.board_play.proofs.Sites.{take_parts}
use Rattle.board_play.proofs.site.Site.take.Goals as goal

pub take-requires-clause-worker : goal.take-requires-clause-worker
take-requires-clause-worker g c =
    (take_parts c.args.self.now.board c.args.worker c.args.name c.args.mode (c.may_come.ensures c.if-not-may_come.false)).0

pub take-requires-clause-due : goal.take-requires-clause-due
take-requires-clause-due g c =
    (take_parts c.args.self.now.board c.args.worker c.args.name c.args.mode (c.may_come.ensures c.if-not-may_come.false)).1
