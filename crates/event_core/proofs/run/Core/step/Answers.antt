use Rattle.std.proofs.Common.{sym, ◌∙◌}
use Rattle.event_core.specs.Enabled.{Enabled}
use Rattle.event_core.specs.Standing.{standing_of}
use Rattle.event_core.proofs.Law.{no_cause}
use Rattle.event_core.proofs.run.Core.step.Goals as goal

pub push-requires : goal.push-requires
unfolding Enabled
push-requires c = no_cause c.args.self.now.0 (standing_of c.args.self.now.0 c.args.self.now.1) c.args.event c.first_cause.ensures.fit (sym c.first_cause.ensures.first ∙ c.in-None.is)

pub returns-in-None-clause-ok : goal.returns-in-None-clause-ok
unfolding Enabled
returns-in-None-clause-ok c = (no_cause c.args.self.now.0 (standing_of c.args.self.now.0 c.args.self.now.1) c.args.event c.first_cause.ensures.fit (sym c.first_cause.ensures.first ∙ c.in-None.is), c.push.ensures)
