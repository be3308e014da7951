use Rattle.std.proofs.Common.{◌≡◌, IfSome, ap, subst, ◌∙◌}
use Rattle.mvn_shared.specs.Told.{gains}
use Rattle.goal_program.specs.Answering.{reply_from}
use Rattle.goal_program.proofs.Replies.{answered, part_all, part_cut_as}
use Rattle.goal_program.proofs.run.goal_main.Goals as goal

pub returns-in-Ok-clause-answered : goal.returns-in-Ok-clause-answered
returns-in-Ok-clause-answered g c =
    let left = g.I.Source.left c.args.input.now in
    let said = subst (λ o. IfSome left (λ rest. o ≡ reply_from rest)) c.in-Ok-Some.field-0-is c.in-Ok-Some.ensures.value in
    λ zero. answered left c.in-Ok-Some.bytes (g.O.Sink.written c.args.out.now) _ said (c.in-Ok.ensures.ok ∙ ap (gains (g.O.Sink.written c.args.out.now)) c.as_slice.ensures)

pub returns-in-Ok-clause-part : goal.returns-in-Ok-clause-part
returns-in-Ok-clause-part g c =
    let left = g.I.Source.left c.args.input.now in
    let said = subst (λ o. IfSome left (λ rest. o ≡ reply_from rest)) c.in-Ok-Some.field-0-is c.in-Ok-Some.ensures.value in
    part_all left c.in-Ok-Some.bytes (g.O.Sink.written c.args.out.now) _ said (c.in-Ok.ensures.ok ∙ ap (gains (g.O.Sink.written c.args.out.now)) c.as_slice.ensures)

pub returns-in-Err-Failed-write_all-clause-part : goal.returns-in-Err-Failed-write_all-clause-part
returns-in-Err-Failed-write_all-clause-part g c =
    let left = g.I.Source.left c.args.input.now in
    let said = subst (λ o. IfSome left (λ rest. o ≡ reply_from rest)) c.in-Ok-Some.field-0-is c.in-Ok-Some.ensures.value in
    part_cut_as left c.in-Ok-Some.bytes _ (g.O.Sink.written c.args.out.now) _ c.as_slice.ensures said c.in-Err-Failed-write_all.ensures.err

pub returns-in-Ok-Some-clause-part : goal.returns-in-Ok-Some-clause-part
returns-in-Ok-Some-clause-part g c =
    let left = g.I.Source.left c.args.input.now in
    let said = subst (λ o. IfSome left (λ rest. o ≡ reply_from rest)) c.in-Ok-Some.field-0-is c.in-Ok-Some.ensures.value in
    part_cut_as left c.in-Ok-Some.bytes _ (g.O.Sink.written c.args.out.now) _ c.as_slice.ensures said c.in-Err-Memory-write_all.ensures.err
