use Rattle.model_laws.proofs.Injected.{keys_of_both}
use Rattle.model_laws.proofs.composing.profiles_add_keys.Goals as goal

pub returns : goal.returns
returns c = keys_of_both
