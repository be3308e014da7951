use Rattle.model_laws.proofs.Plans.{no_pom}
use Rattle.model_laws.proofs.selection_law.no_pom_is_refused.Goals as goal

pub returns : goal.returns
returns c = no_pom
