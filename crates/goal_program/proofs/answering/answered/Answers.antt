use Rattle.std.proofs.Common.{◌≡◌, IfOk, subst}
use Rattle.goal_types.specs.Answers.{answer_text}
use Rattle.goal_types.specs.declared.goal.GoalAnswer.{GoalAnswer}
use Rattle.goal_program.proofs.answering.answered.Goals as goal

pub returns : goal.returns
returns c = subst (λ (answer : GoalAnswer). IfOk c.answer_bytes.result (λ bytes. bytes ≡ answer_text answer)) c.in_ok-answer.ensures c.answer_bytes.ensures
