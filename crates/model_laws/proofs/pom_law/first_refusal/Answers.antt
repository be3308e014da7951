use Rattle.model_laws.proofs.Laws.{read_exactly, refused_exactly, text_read, text_refused}
use Rattle.model_laws.proofs.Levels.{levels}
use Rattle.model_laws.proofs.Told.{one_wrong}
use Rattle.model_laws.proofs.pom_law.first_refusal.Goals as goal

pub returns-clause-refused : goal.returns-clause-refused
returns-clause-refused c = λ bytes nodes pom told t. text_refused bytes nodes t pom told

pub returns-clause-read : goal.returns-clause-read
returns-clause-read c = λ bytes nodes pom said t. text_read bytes nodes t pom said

pub returns-clause-any_refused : goal.returns-clause-any_refused
returns-clause-any_refused c = refused_exactly

pub returns-clause-any_read : goal.returns-clause-any_read
returns-clause-any_read c = read_exactly

pub returns-clause-levels : goal.returns-clause-levels
returns-clause-levels c = levels

pub returns-clause-one : goal.returns-clause-one
returns-clause-one c = one_wrong
