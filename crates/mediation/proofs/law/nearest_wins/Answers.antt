use Rattle.mediation.proofs.Nearest.{won_direct, won_mediated}
use Rattle.mediation.proofs.law.nearest_wins.Goals as goal

pub returns-clause-mediated : goal.returns-clause-mediated
returns-clause-mediated c = won_mediated

pub returns-clause-direct : goal.returns-clause-direct
returns-clause-direct c = won_direct
