use Rattle.std.proofs.Common.{sym, subst}
use Rattle.mvn_base.specs.declared.machine.Machine.{Machine}
use Rattle.generated.specs.Generated.{Generates}
use Rattle.mvn_call.specs.Promises.{Written, written_by}
use Rattle.generated.proofs.Calls.{bounded, generated_call}
use Rattle.generated.proofs.words.write_generated.Goals as goal

pub write_answer-status-requires : goal.write_answer-status-requires
write_answer-status-requires g c = record { status = bounded c.build_generated-call.result.outcome c.build_generated-call.ensures.generates.bound }

pub returns-clause-call : goal.returns-clause-call
returns-clause-call g c = λ seen after machine faults outside.
    let call = c.build_generated-call in
    let wrote = c.write_answer-status in
    let out : Written = written_by g.P.Sink.written g.P.Sink.faults wrote.result c.args.out.now wrote.new.out in
    generated_call c.args.poms c.args.line.now seen after call.result.trace call.result.answers out faults outside wrote.ensures.quiet wrote.ensures.bound call.result.outcome
    (subst (λ (m : Machine). Generates c.args.poms c.args.line.now m call.result.trace call.result.answers call.result.outcome) (sym machine) call.ensures.generates)
    wrote.ensures.whole wrote.ensures.low wrote.ensures.ends wrote.ensures.none wrote.ensures.fault
