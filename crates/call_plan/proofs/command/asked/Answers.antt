use Rattle.call_plan.proofs.Workers.{workers_of}
use Rattle.call_plan.proofs.command.asked.Goals as goal

pub returns-in-Ok-clause-workers : goal.returns-in-Ok-clause-workers
returns-in-Ok-clause-workers c = workers_of c.args.words.now c.args.hands c.in-Ok.line c.in-Ok.ensures c.requires.hands.0
