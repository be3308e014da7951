use Rattle.std.proofs.Common.{arith, sym, ap, subst, ◌∙◌}
use Rattle.event_core.specs.Enabled.{IsEnabled}
use Rattle.event_core.specs.HowFar.{is_over, progress_of}
use Rattle.event_core.specs.Standing.{after}
use Rattle.event_core.specs.Kept.{standing_in}
use Rattle.event_core.proofs.Fits.{hold_none}
use Rattle.event_core.proofs.Ties.{waits_still}
use Rattle.event_core.proofs.standing.Standing.go.Goals as goal

pub take-requires-clause-free : goal.take-requires-clause-free
take-requires-clause-free c =
    let o = c.args.outline.now in
    let now = standing_in o c.args.self.now in
    let is = subst (IsEnabled o now) c.in-Take.is c.requires.enabled in
    hold_none o now c.in-Take.worker c.in-Take.name c.requires.fit is.0 is.3

pub start-requires-clause-low : goal.start-requires-clause-low
start-requires-clause-low c =
    let is = subst (IsEnabled c.args.outline.now (standing_in c.args.outline.now c.args.self.now)) c.in-Start.is c.requires.enabled in
    omega (arith, is.1, c.requires.fit.modules)

pub start-requires-clause-open : goal.start-requires-clause-open
start-requires-clause-open c =
    let now = standing_in c.args.outline.now c.args.self.now in
    let is = subst (IsEnabled c.args.outline.now now) c.in-Start.is c.requires.enabled in
    waits_still (progress_of now.progress c.in-Start.«module») is.2

pub skip-requires-clause-low : goal.skip-requires-clause-low
skip-requires-clause-low c =
    let is = subst (IsEnabled c.args.outline.now (standing_in c.args.outline.now c.args.self.now)) c.in-Skip.is c.requires.enabled in
    omega (arith, is.0, c.requires.fit.modules)

pub skip-requires-clause-open : goal.skip-requires-clause-open
skip-requires-clause-open c =
    let now = standing_in c.args.outline.now c.args.self.now in
    let is = subst (IsEnabled c.args.outline.now now) c.in-Skip.is c.requires.enabled in
    waits_still (progress_of now.progress c.in-Skip.«module») is.1

pub end-requires : goal.end-requires
end-requires c = record { running = (c.args.outline.now, λ m at. let low = c.requires.tied.real c.in-End.worker m at in (omega (arith, low, c.requires.fit.modules), ap is_over (c.requires.tied.busy c.in-End.worker m at))) }

pub returns-in-Skip-clause-at : goal.returns-in-Skip-clause-at
unfolding after
returns-in-Skip-clause-at c = c.skip.ensures.at c.args.outline.now ∙ ap (after c.args.outline.now (standing_in c.args.outline.now c.args.self.now)) (sym c.in-Skip.is)

pub returns-in-End-clause-at : goal.returns-in-End-clause-at
unfolding after
returns-in-End-clause-at c = c.end.ensures.at c.args.outline.now ∙ ap (after c.args.outline.now (standing_in c.args.outline.now c.args.self.now)) (sym c.in-End.is)

pub returns-in-Skip-clause-holding : goal.returns-in-Skip-clause-holding
returns-in-Skip-clause-holding c = c.skip.ensures.holding c.args.outline.now

pub returns-in-End-clause-holding : goal.returns-in-End-clause-holding
returns-in-End-clause-holding c = λ holding.
    let o = c.args.outline.now in
    let is = subst (IsEnabled o (standing_in o c.args.self.now)) c.in-End.is c.requires.enabled in
    c.end.ensures.holding o holding is.2
