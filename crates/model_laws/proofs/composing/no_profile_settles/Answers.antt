use Rattle.model_laws.proofs.Composed.{model_settled}
use Rattle.model_laws.proofs.composing.no_profile_settles.Goals as goal

pub returns : goal.returns
returns c = model_settled
