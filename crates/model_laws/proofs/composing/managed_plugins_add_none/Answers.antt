use Rattle.model_laws.proofs.Composed.{names_applied}
use Rattle.model_laws.proofs.composing.managed_plugins_add_none.Goals as goal

pub returns : goal.returns
returns c = names_applied
