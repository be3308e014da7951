use Rattle.crew_modules.proofs.Lasting.{begun_takes}
use Rattle.crew_modules.proofs.fetching.make_ready.Goals as goal

pub take_batch-requires-clause-at : goal.take_batch-requires-clause-at
take_batch-requires-clause-at g c = begun_takes c.args.task.now c.args.pass.now c.requires.begun
