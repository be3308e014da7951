use Rattle.model_laws.proofs.PomsWorked.{artifact_wrong, group_wrong, three_first, two_first, version_wrong}
use Rattle.model_laws.proofs.pom_law.first_of_three.Goals as goal

pub returns-clause-group : goal.returns-clause-group
returns-clause-group c = group_wrong

pub returns-clause-artifact : goal.returns-clause-artifact
returns-clause-artifact c = artifact_wrong

pub returns-clause-version : goal.returns-clause-version
returns-clause-version c = version_wrong

pub returns-clause-first : goal.returns-clause-first
returns-clause-first c = three_first

pub returns-clause-second : goal.returns-clause-second
returns-clause-second c = two_first
