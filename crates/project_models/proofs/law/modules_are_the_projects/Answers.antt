use Rattle.project_models.proofs.Holding.{are_of_project}
use Rattle.project_models.proofs.law.modules_are_the_projects.Goals as goal

pub returns : goal.returns
returns c = are_of_project
