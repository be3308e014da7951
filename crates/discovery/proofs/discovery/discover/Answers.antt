use Rattle.discovery.proofs.discovery.discover.Goals as goal

pub returns-in-Err-clause-keeps : goal.returns-in-Err-clause-keeps
returns-in-Err-clause-keeps g c = λ path found read. c.in-Err.ensures.keeps path found (c.in_ok-progress.ensures.keeps path found read)
