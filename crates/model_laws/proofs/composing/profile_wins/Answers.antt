use Rattle.model_laws.proofs.Injected.{stated_by}
use Rattle.model_laws.proofs.composing.profile_wins.Goals as goal

pub returns : goal.returns
returns c = stated_by
