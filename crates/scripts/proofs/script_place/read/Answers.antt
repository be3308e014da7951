use Rattle.scripts.proofs.Dues.{not_read}
use Rattle.scripts.proofs.script_place.read.Goals as goal

pub returns-in_default-clause-rest : goal.returns-in_default-clause-rest
returns-in_default-clause-rest c = not_read c.args.plan.now c.args.file c.args.place c.requires c.in_default.not-Reading
