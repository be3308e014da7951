use Rattle.reactor.proofs.Standing.{stands_on_winners}
use Rattle.reactor.proofs.law.winners_are_upstreams.Goals as goal

pub returns : goal.returns
returns c = stands_on_winners
