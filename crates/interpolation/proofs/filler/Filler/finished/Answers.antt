use Rattle.std.proofs.Common.{Ok, subst}
use Rattle.interpolation.specs.Tables.{Ends}
use Rattle.interpolation.specs.declared.filler.Whole.TheVariants as whole
use Rattle.interpolation.proofs.Steps.{started}
use Rattle.interpolation.proofs.filler.Filler.finished.Goals as goal

pub loop-more-init : goal.loop-more-init
loop-more-init c = λ known is table. started known c.new-waiting.result.items c.args.step c.args.self.now c.new-waiting.ensures.items is table

pub loop-more-preserved : goal.loop-more-preserved
loop-more-preserved c = λ known is table.
    let ends : Ends known c.args.step.name c.turned.new.self (Ok (whole.Goes c.in-Goes.more c.in-Goes.next)) = subst (λ t. Ends known c.args.step.name c.turned.new.self (Ok t)) c.in-Goes.is (c.in_ok-more.ensures.says known c.args.step.name (c.loop-more.invariant known is table)) in
    ends

pub returns-in-Ends : goal.returns-in-Ends
returns-in-Ends c = λ known is table.
    let ends : Ends known c.args.step.name c.turned.new.self (Ok (whole.Ends c.in-Ends.text)) = subst (λ t. Ends known c.args.step.name c.turned.new.self (Ok t)) c.in-Ends.is (c.in_ok-more.ensures.says known c.args.step.name (c.loop-more.invariant known is table)) in
    ends
