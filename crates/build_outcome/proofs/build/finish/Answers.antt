use Rattle.std.proofs.Common.{List, IfOk, refl, subst}
use Rattle.build_core.specs.declared.ending.State.{State}
use Rattle.build_core.specs.declared.event.Answered.{Answered}
use Rattle.build_outcome.specs.Outcomes.{IsRunAnswer}
use Rattle.build_outcome.proofs.Endings.{may_settle}
use Rattle.build_outcome.proofs.build.finish.Goals as goal

pub returns : goal.returns
returns g c =
    let outcome = c.outcome_of-outcome.result in
    let settled = c.settle-settled.result in
    record {
      settled = settled;
      ok = c.settle-settled.ensures.ok;
      may = may_settle (g.S.Shelf.told c.args.left.shelf) (g.S.Shelf.told c.settle-settled.new.shelf) settled (g.met.S.Shelf.settled_within c.args.left.shelf) c.settle-settled.ensures.ok c.settle-settled.ensures.err;
      cause = c.settle-settled.ensures.cause;
      answer = subst (λ (answers : List Answered). IfOk outcome (IsRunAnswer c.args.plan.now c.args.details answers c.args.left.states settled)) c.as_slice.ensures
          (subst (λ (states : List State). IfOk outcome (IsRunAnswer c.args.plan.now c.args.details c.as_slice.result.now states settled)) c.as_slice-2.ensures c.outcome_of-outcome.ensures);
      events = refl;
      kept = refl;
    }
