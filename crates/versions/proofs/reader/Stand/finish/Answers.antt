use Rattle.versions.proofs.reader.Stand.finish.Goals as goal

pub returns-clause-value : goal.returns-clause-value
returns-clause-value c = λ text at. rw c.in_ok-upper.ensures at (c.close.ensures.value text at)
