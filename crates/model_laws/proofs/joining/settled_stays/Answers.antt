use Rattle.model_laws.proofs.Plugins.{is_settled, merged_settled, settled_stays}
use Rattle.model_laws.proofs.joining.settled_stays.Goals as goal

pub returns : goal.returns
returns c = record { once = is_settled; stays = settled_stays; merged = merged_settled }
