use Rattle.crew_modules.proofs.Entries.{had_output, stops_seeing}
use Rattle.crew_modules.proofs.gathering.output_bytes.Goals as goal

pub returns-in-Ok-clause-goes : goal.returns-in-Ok-clause-goes
returns-in-Ok-clause-goes g c = record { of = c.in-Ok.ensures.turn.of; follows = c.in-Ok.ensures.turn.follows; fits = c.in-Ok.ensures.fits }

pub returns-in-Ok-clause-had : goal.returns-in-Ok-clause-had
returns-in-Ok-clause-had g c =
    had_output c.args.task.now c.requires.is_task c.args.lock.now c.args.at c.args.pass.now c.copy_output.new.pass c.requires.reading c.args.number c.args.slot c.requires.from c.in-Ok.ensures.turn c.in-Ok.bytes c.in-Ok.ensures.bytes

pub returns-in-Err-clause-goes : goal.returns-in-Err-clause-goes
returns-in-Err-clause-goes g c = record { of = c.in-Err.ensures.turn.of; follows = c.in-Err.ensures.turn.follows; fits = c.in-Err.ensures.fits }

pub returns-in-Err-clause-had : goal.returns-in-Err-clause-had
returns-in-Err-clause-had g c = stops_seeing c.args.task.now c.requires.is_task c.args.lock.now c.args.at c.args.pass.now c.copy_output.new.pass c.requires.reading c.in-Err.ensures.turn
