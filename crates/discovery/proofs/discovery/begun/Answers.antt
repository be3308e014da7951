use Rattle.discovery.proofs.discovery.begun.Goals as goal

pub returns-in-Ok-clause-keeps : goal.returns-in-Ok-clause-keeps
returns-in-Ok-clause-keeps g c = λ path found read. c.in-Ok.ensures.keeps path found (c.in_ok-pom.ensures.keeps path found read)

pub returns-in-Err-clause-keeps : goal.returns-in-Err-clause-keeps
returns-in-Err-clause-keeps g c = λ path found read. c.in-Err.ensures.keeps path found (c.in_ok-pom.ensures.keeps path found read)
