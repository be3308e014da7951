use Rattle.std.proofs.Common.{◌+◌, ◌≤◌, ◌∷◌, [], ◌++◌, length, arith, sym, ap, subst, ◌∙◌}
use Rattle.event_core.specs.EventsLeft.{events_left}
use Rattle.event_core.specs.Enabled.{Enabled, IsEnabled, IsRun}
use Rattle.event_core.specs.Fitting.{IsFit, IsTied}
use Rattle.event_core.specs.Standing.{after, standing_of}
use Rattle.event_core.proofs.Fits.{fewer_after, fit_after, longer_by_one, one_more}
use Rattle.event_core.proofs.Ties.{tied_after}
use Rattle.event_core.proofs.Runs.{run_more}
use Rattle.event_core.proofs.run.Core.push.Goals as goal

pub go-requires-clause-fit : goal.go-requires-clause-fit
go-requires-clause-fit c = let o = c.self.inside.outline in subst (IsFit o) (sym c.self.invariant.same) c.self.invariant.fit

pub go-requires-clause-tied : goal.go-requires-clause-tied
go-requires-clause-tied c = let o = c.self.inside.outline in subst (IsTied o) (sym c.self.invariant.same) c.self.invariant.tied

pub go-requires-clause-enabled : goal.go-requires-clause-enabled
unfolding Enabled
go-requires-clause-enabled c =
    let o = c.self.inside.outline in
    let is = subst (λ v. IsEnabled v.0 (standing_of v.0 v.1) c.args.event) (sym c.self.view_is) c.requires in
    subst (λ now. IsEnabled o now c.args.event) (sym c.self.invariant.same) is

pub note-requires : goal.note-requires
unfolding Enabled
note-requires c =
    let o = c.self.inside.outline in
    let events = c.self.inside.history.items in
    let is = subst (λ v. IsEnabled v.0 (standing_of v.0 v.1) c.args.event) (sym c.self.view_is) c.requires in
    let less = fewer_after o (standing_of o events) c.args.event c.self.invariant.fit is in
    omega (arith, less, c.self.invariant.left, c.self.invariant.kept)

pub invariant_of-self : goal.invariant_of-self
unfolding Enabled
invariant_of-self c =
    let o = c.self.inside.outline in
    let events = c.self.inside.history.items in
    let e = c.args.event in
    let is = subst (λ v. IsEnabled v.0 (standing_of v.0 v.1) e) (sym c.self.view_is) c.requires in
    let next = one_more o events e in
    let grown = c.note.ensures.items in
    let less = fewer_after o (standing_of o events) e c.self.invariant.fit is in
    let long = longer_by_one events e in
    let left : length (events ++ e ∷ []) + events_left o (after o (standing_of o events) e) ≤ o.events = omega (arith, less, long, c.self.invariant.left) in
    record {
      same = c.go.ensures.at ∙ ap (λ now. after o now e) c.self.invariant.same ∙ sym next ∙ ap (standing_of o) (sym grown);
      run = subst (λ t. IsRun o [] t) (sym grown) (run_more o [] events e c.self.invariant.run is);
      fit = subst (λ t. IsFit o (standing_of o t)) (sym grown) (subst (IsFit o) (sym next) (fit_after o (standing_of o events) e c.self.invariant.fit is));
      tied = subst (λ t. IsTied o (standing_of o t)) (sym grown) (subst (IsTied o) (sym next) (tied_after o (standing_of o events) e c.self.invariant.fit c.self.invariant.tied is));
      holding = c.go.ensures.holding c.self.invariant.holding;
      kept = omega (arith, c.self.invariant.kept, c.note.ensures.capacity);
      few = c.self.invariant.few;
      ups = c.go.ensures.upstreams ∙ c.self.invariant.ups;
      left = subst (λ t. length t + events_left o (standing_of o t) ≤ o.events) (sym grown) (subst (λ now. length (events ++ e ∷ []) + events_left o now ≤ o.events) (sym next) left);
    }

pub returns : goal.returns
returns c = λ i. (ap (λ v. v.0) c.self.view_is i, (c.note.ensures.items ∙ ap (λ t. t ++ c.args.event ∷ []) (ap (λ v. v.1) c.self.view_is)) i)
