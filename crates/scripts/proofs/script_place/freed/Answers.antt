use Rattle.scripts.proofs.Dues.{not_free}
use Rattle.scripts.proofs.script_place.freed.Goals as goal

pub returns-in_default-clause-rest : goal.returns-in_default-clause-rest
returns-in_default-clause-rest c = not_free c.args.plan.now c.args.place c.requires c.in_default.not-Unsharing c.in_default.not-Releasing c.in_default.not-Installing
