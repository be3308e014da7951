use Rattle.call_laws.proofs.Founding.{one_found}
use Rattle.call_laws.proofs.law.one_outcome.Goals as goal

pub returns : goal.returns
returns c = one_found
