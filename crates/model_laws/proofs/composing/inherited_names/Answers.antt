use Rattle.model_laws.proofs.Places.{join_inherited}
use Rattle.model_laws.proofs.composing.inherited_names.Goals as goal

pub returns : goal.returns
returns c = join_inherited
