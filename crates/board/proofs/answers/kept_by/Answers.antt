use Rattle.std.proofs.Common.{ap, sym, ◌∙◌}
use Rattle.board.specs.Walks.{goals_of}
use Rattle.board.specs.Builds.{kept_so}
use Rattle.board.proofs.AnswerMore.{stand_kept}
use Rattle.board.proofs.answers.kept_by.Goals as goal

pub returns : goal.returns
returns c = c.kept_so.ensures ∙ ap (kept_so c.args.goal) c.stand.ensures ∙ sym (stand_kept c.args.goal (goals_of c.args.answers.now.kept c.args.number c.args.module.now))
