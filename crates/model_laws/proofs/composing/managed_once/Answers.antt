use Rattle.model_laws.proofs.FirstOfEach.{first_again, first_once}
use Rattle.model_laws.proofs.composing.managed_once.Goals as goal

pub returns : goal.returns
returns c = record { once = first_once; again = first_again }
