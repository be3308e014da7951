use Rattle.std.proofs.Common.{sym, ◌∙◌}
use Rattle.effective.proofs.Knowing.{asked_known}
use Rattle.effective.proofs.looked.asked_gav.Goals as goal

pub returns-in-Ok-clause-says : goal.returns-in-Ok-clause-says
returns-in-Ok-clause-says g c = λ world given fits holds. sym (asked_known (world.by_gav c.args.gav.now)) ∙ c.in-Ok.ensures.says world given fits holds
