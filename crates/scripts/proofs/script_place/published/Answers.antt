use Rattle.scripts.proofs.Dues.{not_publish}
use Rattle.scripts.proofs.script_place.published.Goals as goal

pub returns-in_default-clause-rest : goal.returns-in_default-clause-rest
returns-in_default-clause-rest c = not_publish c.args.plan.now c.args.file c.args.place c.requires c.in_default.not-Fetching c.in_default.not-Installing
