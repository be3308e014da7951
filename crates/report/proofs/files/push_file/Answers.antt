use Rattle.report.proofs.Lists.{no_file}
use Rattle.report.proofs.files.push_file.Goals as goal

pub returns-in-None : goal.returns-in-None
returns-in-None c = no_file c.args.files.now c.args.winners.now c.args.place c.in-None.ensures.lookup.3
