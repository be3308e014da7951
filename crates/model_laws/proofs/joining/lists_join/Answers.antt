use Rattle.model_laws.proofs.Keys.{item_with_others}
use Rattle.model_laws.proofs.Merges.{join_with_others}
use Rattle.model_laws.proofs.joining.lists_join.Goals as goal

pub returns : goal.returns
returns g c = record { keys = join_with_others g.T.Keyed.key_of; found = item_with_others g.T.Keyed.key_of }
