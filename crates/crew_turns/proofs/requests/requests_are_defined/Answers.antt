use Rattle.crew_turns.proofs.Askings.{asks}
use Rattle.crew_turns.proofs.requests.requests_are_defined.Goals as goal

pub returns : goal.returns
returns c = asks
