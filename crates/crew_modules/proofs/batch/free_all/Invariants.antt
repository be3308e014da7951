use Rattle.crew_modules.proofs.Freeing.{IsFreeing}
use Rattle.crew_modules.proofs.batch.free_all.Given as goal

-- the first so many names are freed
abbrev pub invariant-loop-at : goal.invariant-loop-at
invariant-loop-at g l = IsFreeing l.task l.lock l.names l.at l.initial.pass l.pass
