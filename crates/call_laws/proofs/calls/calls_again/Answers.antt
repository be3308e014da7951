use Rattle.call_laws.proofs.Recalling.{call_again}
use Rattle.call_laws.proofs.calls.calls_again.Goals as goal

pub returns : goal.returns
returns c = call_again
