use Rattle.std.proofs.Common.{◌≤◌, ◌+◌, List, [], length, arith, subst}
use Rattle.build_core.specs.declared.event.Event.{Event}
use Rattle.scripts.specs.declared.outline.Outline.{Outline}
use Rattle.event_core.specs.EventsLeft.{events_left}
use Rattle.event_core.specs.Enabled.{IsRun}
use Rattle.event_core.specs.Standing.{standing_of}
use Rattle.event_core.proofs.run.Core.runs_within_bound.Goals as goal

pub returns-clause-run : goal.returns-clause-run
returns-clause-run c = subst (λ v. IsRun v.0 [] v.1) c.self.view_is c.self.invariant.run

pub returns-clause-bound : goal.returns-clause-bound
returns-clause-bound c = subst (λ v. length v.1 ≤ v.0.events) c.self.view_is (within c.self.inside.outline c.self.inside.history.items c.self.invariant.left)
  where
    within : (o : Outline) (events : List Event) → length events + events_left o (standing_of o events) ≤ o.events → length events ≤ o.events
    within o events left = omega (arith, left)
