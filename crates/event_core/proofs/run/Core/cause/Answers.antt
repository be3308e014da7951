use Rattle.std.proofs.Common.{sym, ◌∙◌}
use Rattle.event_core.specs.Enabled.{Enabled}
use Rattle.event_core.specs.Standing.{standing_of}
use Rattle.event_core.proofs.Law.{cause_none, no_cause}
use Rattle.event_core.proofs.run.Core.cause.Goals as goal

pub returns-clause-none : goal.returns-clause-none
unfolding Enabled
returns-clause-none c =
    let now = standing_of c.args.self.now.0 c.args.self.now.1 in (
      λ none. no_cause c.args.self.now.0 now c.args.event c.first_cause.ensures.fit (sym c.first_cause.ensures.first ∙ none),
      λ is. c.first_cause.ensures.first ∙ cause_none c.args.self.now.0 now c.args.event is,
    )
