use Rattle.model_laws.proofs.Plans.{of_selected}
use Rattle.model_laws.proofs.selection_law.plan_is_of_the_selected.Goals as goal

pub returns : goal.returns
returns c = of_selected
