use Rattle.scripts.proofs.Dues.{not_answer}
use Rattle.scripts.proofs.script_place.answered.Goals as goal

pub returns-in_default-clause-rest : goal.returns-in_default-clause-rest
returns-in_default-clause-rest c = not_answer c.args.plan.now c.args.goal c.args.place c.requires c.in_default.not-Answering
