use Rattle.model_laws.proofs.PomsWorked.{again_wrong, merges_wrong, one_place_first}
use Rattle.model_laws.proofs.pom_law.first_at_one_place.Goals as goal

pub returns-clause-again : goal.returns-clause-again
returns-clause-again c = again_wrong

pub returns-clause-merges : goal.returns-clause-merges
returns-clause-merges c = merges_wrong

pub returns-clause-first : goal.returns-clause-first
returns-clause-first c = one_place_first
