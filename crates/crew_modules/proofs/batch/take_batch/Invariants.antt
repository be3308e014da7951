use Rattle.crew_modules.proofs.Batches.{IsTaking}
use Rattle.crew_modules.proofs.batch.take_batch.Given as goal

-- the first so many names are taken
abbrev pub invariant-loop-at : goal.invariant-loop-at
invariant-loop-at g l = IsTaking l.task l.lock l.mode l.at l.found l.initial.pass l.pass
