use Rattle.std.proofs.Common.{◌≡◌, ◌≤◌, ◌+◌, [], List, length, arith, sym, ap, subst, ◌∙◌}
use Rattle.build_core.specs.declared.event.Event.{Event}
use Rattle.event_core.specs.EventsLeft.{events_left}
use Rattle.event_core.specs.Enabled.{IsRun}
use Rattle.event_core.specs.Fitting.{IsFit, IsTied}
use Rattle.event_core.specs.Standing.{standing_of}
use Rattle.event_core.proofs.Fits.{fit_first, most_first}
use Rattle.event_core.proofs.Ties.{tied_first}
use Rattle.event_core.proofs.run.Core.over.Goals as goal

pub invariant_of-result : goal.invariant_of-result
invariant_of-result c =
    let o = c.args.outline in
    let none : c.in_ok-history.history.items ≡ [] = c.in_ok-history.ensures.items in
    let first = most_first o in
    record {
      same = c.in_ok-standing.ensures.at ∙ ap (standing_of o) (sym none);
      run = subst (λ t. IsRun o [] t) (sym none) tt;
      fit = subst (λ t. IsFit o (standing_of o t)) (sym none) (fit_first o);
      tied = subst (λ t. IsTied o (standing_of o t)) (sym none) (tied_first o);
      holding = c.in_ok-standing.ensures.holding;
      kept = omega (arith, c.in_ok-history.ensures.exact);
      few = c.requires.few;
      ups = c.in_ok-standing.ensures.upstreams;
      left = subst (λ (t : List Event). length t + events_left o (standing_of o t) ≤ o.events) (sym none) (omega (arith, c.requires.room, first));
    }

pub returns : goal.returns
returns c = λ i. (c.args.outline, c.in_ok-history.ensures.items i)
