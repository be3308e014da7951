use Rattle.model_laws.proofs.Composed.{stated_first}
use Rattle.model_laws.proofs.composing.child_wins.Goals as goal

pub returns : goal.returns
returns c = stated_first
