use Rattle.scripts.proofs.Dues.{not_take}
use Rattle.scripts.proofs.script_place.taken.Goals as goal

pub returns-in_default-clause-rest : goal.returns-in_default-clause-rest
returns-in_default-clause-rest c = not_take c.args.plan.now c.args.mode c.args.name c.args.place c.requires c.in_default.not-Sharing c.in_default.not-Locking c.in_default.not-Securing
