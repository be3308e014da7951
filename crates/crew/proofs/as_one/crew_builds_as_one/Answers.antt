use Rattle.crew.proofs.Sides.{apart, as_one, gathered}
use Rattle.crew.proofs.as_one.crew_builds_as_one.Goals as goal

pub returns : goal.returns
returns c = record { gathered = gathered; as_one = as_one; apart = apart }
