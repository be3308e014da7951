use Rattle.crew_modules.proofs.Taking.{HasWaited}
use Rattle.crew_modules.proofs.batch.take_name.Given as goal

-- no entry of the worker came
abbrev pub invariant-loop : goal.invariant-loop
invariant-loop g l = HasWaited l.task.plan l.lock l.task.worker l.initial.pass l.pass
