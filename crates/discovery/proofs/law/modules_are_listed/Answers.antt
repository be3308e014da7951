use Rattle.discovery.proofs.Projects.{is_project}
use Rattle.discovery.proofs.law.modules_are_listed.Goals as goal

pub returns : goal.returns
returns c = is_project
