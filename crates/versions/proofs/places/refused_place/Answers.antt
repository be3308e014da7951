use Rattle.versions.proofs.Fronts.{refused, no_further, so_far}
use Rattle.versions.proofs.places.refused_place.Goals as goal

pub returns-clause-no_further : goal.returns-clause-no_further
returns-clause-no_further c = λ text rest place e low. no_further text rest place (refused text place e) low

pub returns-clause-so_far : goal.returns-clause-so_far
returns-clause-so_far c = λ text place e. so_far text place (refused text place e)
