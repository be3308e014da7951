use Rattle.std.proofs.Common.{◌≡◌, IfSome, ap, subst, ◌∙◌}
use Rattle.goal_program.specs.Answering.{reply_to}
use Rattle.goal_program.proofs.Replies.{replied}
use Rattle.goal_program.proofs.Steps.{whole}
use Rattle.goal_program.proofs.run.reply.Goals as goal

pub returns-clause-value : goal.returns-clause-value
returns-clause-value g c =
    let left = g.I.Source.left c.args.input.now in
    let all = subst (λ o. IfSome left (λ rest. o ≡ whole rest)) c.in-Some.is c.in_ok-bytes.ensures.all in
    replied left c.in-Some.bytes c.in_ok-reply_to.field-0 all (c.in_ok-reply_to.ensures ∙ ap reply_to c.as_slice.ensures)
