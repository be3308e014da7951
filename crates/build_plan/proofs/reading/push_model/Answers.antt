use Rattle.std.proofs.Common.{slice_get, sym}
use Rattle.build_plan.proofs.Lists.{none_more}
use Rattle.build_plan.proofs.reading.push_model.Goals as goal

pub returns-in-None : goal.returns-in-None
returns-in-None c = none_more c.args.list.now (slice_get c.args.models.now c.args.number) (sym c.in-None.ensures)
