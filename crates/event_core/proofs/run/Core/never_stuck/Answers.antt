use Rattle.std.proofs.Common.{subst, vec_capacity}
use Rattle.event_core.specs.Going.{NamesAscend, NeverLocked, NeverWaits}
use Rattle.event_core.specs.Standing.{standing_of}
use Rattle.event_core.proofs.Stuck.{names_ascend, never_locked, never_waits}
use Rattle.event_core.proofs.run.Core.never_stuck.Goals as goal

pub returns-clause-lock : goal.returns-clause-lock
returns-clause-lock c = subst (λ v. NeverLocked v.0 (standing_of v.0 v.1)) c.self.view_is (never_locked c.self.inside.outline c.self.inside.history.items c.self.inside.standing (vec_capacity c.self.inside.history) c.self.invariant)

pub returns-clause-wait : goal.returns-clause-wait
returns-clause-wait c = subst (λ v. NeverWaits v.0 (standing_of v.0 v.1)) c.self.view_is (never_waits c.self.inside.outline c.self.inside.history.items c.self.inside.standing (vec_capacity c.self.inside.history) c.self.invariant)

pub returns-clause-names : goal.returns-clause-names
returns-clause-names c = subst (λ v. NamesAscend v.0 (standing_of v.0 v.1)) c.self.view_is (names_ascend c.self.inside.outline c.self.inside.history.items c.self.inside.standing (vec_capacity c.self.inside.history) c.self.invariant)
