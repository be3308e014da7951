use Rattle.std.proofs.Common.{length, sym, subst}
use Rattle.run_law.specs.Gathered.{files_before}
use Rattle.crew_modules.specs.Had.{GoesOn, StopsReading}
use Rattle.crew_modules.proofs.Entries.{due_file, file_low, had_read, paths_stay, stops_read}
use Rattle.crew_modules.proofs.gathering.new_bytes.Goals as goal

pub read_file-requires : goal.read_file-requires
read_file-requires g c =
    let t = c.args.task.now in
    let pass = c.args.pass.now in
    let reading = c.requires.gathered.at in
    record {
      of = c.requires.of;
      due = due_file t c.requires.is_task c.args.lock.now c.args.at pass pass reading c.args.file c.requires.from c.requires.new;
      file = file_low t c.requires.is_task c.args.lock.now c.args.at pass pass reading c.args.file c.requires.from c.requires.of.sound;
    }

pub returns-in-Ok-clause-goes : goal.returns-in-Ok-clause-goes
returns-in-Ok-clause-goes g c = record { of = c.in-Ok.ensures.ok.of; follows = c.in-Ok.ensures.ok.follows; fits = c.in-Ok.ensures.fits }

pub returns-in-Ok-clause-had : goal.returns-in-Ok-clause-had
returns-in-Ok-clause-had g c =
    had_read c.args.task.now c.requires.is_task c.args.lock.now c.args.at c.args.pass.now c.read_file.new.pass c.requires.gathered.at c.args.file c.requires.from c.requires.new c.in-Ok.ensures.ok c.in-Ok.bytes c.in-Ok.ensures.bytes

pub returns-in-Err-clause-goes : goal.returns-in-Err-clause-goes
returns-in-Err-clause-goes g c = record { of = c.in-Err.ensures.err.of; follows = c.in-Err.ensures.err.follows; fits = c.in-Err.ensures.fits }

pub returns-in-Err-clause-had : goal.returns-in-Err-clause-had
returns-in-Err-clause-had g c =
    let t = c.args.task.now in
    let is = c.requires.is_task in
    let lock = c.args.lock.now in
    let at = c.args.at in
    let before = c.args.pass.now in
    let pass = c.read_file.new.pass in
    let gathered = c.requires.gathered in
    let sees = c.in-Err.ensures.err in
    let goes : GoesOn t lock before pass = record { of = sees.of; follows = sees.follows; fits = c.in-Err.ensures.fits } in
    let are = paths_stay t is lock before pass goes (length (files_before t.unit at)) gathered.at at c.args.gathered.now gathered.are in
    subst (λ e. StopsReading t e pass) (sym c.read_end.ensures)
    (stops_read t is lock at before pass gathered.at c.args.file c.requires.from c.requires.new c.args.gathered.now are c.room-limit.result c.room-limit.ensures sees c.in-Err.fault c.in-Err.ensures.large)
