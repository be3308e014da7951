use Rattle.resolution.proofs.NoneLost.{none_lost}
use Rattle.resolution.proofs.order_law.no_place_lost.Goals as goal

pub returns : goal.returns
returns c = λ above place ascends low. none_lost above ascends place low
