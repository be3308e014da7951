use Rattle.model_laws.proofs.Once.{model_once}
use Rattle.model_laws.proofs.whole.keys_stand_once.Goals as goal

pub returns : goal.returns
returns c = model_once
