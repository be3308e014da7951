use Rattle.model_laws.proofs.Once.{effective_once}
use Rattle.model_laws.proofs.whole.effective_keys_stand_once.Goals as goal

pub returns : goal.returns
returns c = effective_once
