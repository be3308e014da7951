use Rattle.std.proofs.Common.{Some, refl, subst}
use Rattle.goal_types.specs.declared.goal.GoalAnswer.TheVariants.{Produced}
use Rattle.build_core.specs.declared.ending.Ending.TheVariants as ending
use Rattle.board.specs.declared.next.AnswerKept.{AnswerKept}
use Rattle.crew_turns.specs.Asked.{SettlesAnswer}
use Rattle.crew_modules.proofs.goals.take_output.Goals as goal

pub returns-in-TooLarge-clause-settles : goal.returns-in-TooLarge-clause-settles
returns-in-TooLarge-clause-settles g c =
    subst (λ (k : AnswerKept). SettlesAnswer c.args.goal c.args.slot k (Produced c.args.bytes) c.args.own.now c.put_copy-stop.new.own (Some (ending.OutputTooLarge c.args.goal))) c.in-TooLarge.ensures.kept refl

pub returns-in-Held-clause-settles : goal.returns-in-Held-clause-settles
returns-in-Held-clause-settles g c =
    subst (λ (k : AnswerKept). SettlesAnswer c.args.goal c.args.slot k (Produced c.args.bytes) c.args.own.now c.put_copy-stop.new.own c.put_copy-stop.result) c.in-Held.ensures.kept c.put_copy-stop.ensures
