use Rattle.std.proofs.Common.{◌<◌, None, Some, length, unwrap_or, ap, arith, sym, ◌∙◌}
use Rattle.goal_types.specs.declared.goal.GoalAnswer.TheVariants.{Done}
use Rattle.build_core.specs.OneThread.{answer_at}
use Rattle.board.specs.Walks.{produced}
use Rattle.board.proofs.AnswerOutputs.{found_low, walk_output}
use Rattle.board.proofs.table.AnswerTable.output.Goals as goal

pub answer-requires : goal.answer-requires
answer-requires c =
    let low = found_low c.args.module.now.budget (answer_at c.args.self.now.kept c.args.number) c.args.slot c.args.module.now.goals c.in-Some.goal (sym (ap (λ r. r.1) c.walk.ensures) ∙ c.in-Some.is) in
    omega (arith, low, c.requires.goals)

pub returns-in-Some : goal.returns-in-Some
returns-in-Some c =
    c.bytes_of.ensures ∙ ap (λ o. produced (unwrap_or o Done)) c.answer.ensures
    ∙ walk_output c.args.module.now.budget (answer_at c.args.self.now.kept c.args.number) c.args.slot c.args.module.now.goals (Some c.in-Some.goal) (sym (ap (λ r. r.1) c.walk.ensures) ∙ c.in-Some.is)

pub returns-in-None : goal.returns-in-None
returns-in-None c =
    walk_output c.args.module.now.budget (answer_at c.args.self.now.kept c.args.number) c.args.slot c.args.module.now.goals None (sym (ap (λ r. r.1) c.walk.ensures) ∙ c.in-None.is)
