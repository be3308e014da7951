use Rattle.pom_text.proofs.Digits.{keeps_all}
use Rattle.pom_text.proofs.reference.number.Goals as goal

pub returns-clause-value : goal.returns-clause-value
returns-clause-value c = keeps_all c.args.radix c.args.digits.now c.loop-b.b-index c.loop-b.value c.loop-b-test.false c.loop-b.invariant.keeps
