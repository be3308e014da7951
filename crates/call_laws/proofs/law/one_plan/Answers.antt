use Rattle.call_laws.proofs.Stepping.{one_answer}
use Rattle.call_laws.proofs.law.one_plan.Goals as goal

pub returns : goal.returns
returns c = one_answer
