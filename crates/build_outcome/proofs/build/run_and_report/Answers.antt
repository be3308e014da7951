use Rattle.std.proofs.Common.{◌≡◌, Result, IfOk, ap, sym, subst}
use Rattle.mvn_shared.specs.declared.memory.OutOfMemory.{OutOfMemory}
use Rattle.crew_turns.specs.Hands.{state_by}
use Rattle.build_outcome.specs.Left.{outside_by}
use Rattle.build_outcome.specs.Outcomes.{area_fault}
use Rattle.build_outcome.specs.declared.outcome.Outcome.{Outcome}
use Rattle.build_outcome.proofs.Idle.{area_told, without_memory}
use Rattle.build_outcome.proofs.build.run_and_report.Goals as goal

pub returns-in-Err-Failed : goal.returns-in-Err-Failed
returns-in-Err-Failed g c =
    let state = state_by g.R.Remote.files g.R.Remote.faults g.S.Area.Area.contents g.S.Area.Area.faults g.S.Area.Area.pieces g.G.Gate.answers g.G.Gate.faults in
    record {
      reports = area_told c.args.plan.now c.args.details (outside_by g.S.Shelf.told g.S.Shelf.faults state c.args.shelf c.args.hands.now) (outside_by g.S.Shelf.told g.S.Shelf.faults state c.nothing.result.devices c.sweep_all.new.hands)
          c.nothing.result.trace c.nothing.result.answers (c.nothing.ensures.trace, c.nothing.ensures.answers, ap g.S.Shelf.told c.nothing.ensures.devices) c.sweep_all.ensures.same c.nothing.result.outcome
          (subst (λ (r : Result Outcome OutOfMemory). IfOk r (λ answer. answer ≡ area_fault)) (sym c.nothing.ensures.outcome) c.fault_area.ensures.is)
          (subst (λ (r : Result Outcome OutOfMemory). IfOk r (λ answer. answer.status ≡ 3)) (sym c.nothing.ensures.outcome) c.fault_area.ensures.status) (c.in-Err-Failed.ensures.err c.in-Err-Failed.field-0-is);
    }

pub returns : goal.returns
returns g c =
    let state = state_by g.R.Remote.files g.R.Remote.faults g.S.Area.Area.contents g.S.Area.Area.faults g.S.Area.Area.pieces g.G.Gate.answers g.G.Gate.faults in
    record {
      reports = without_memory c.args.plan.now c.args.details (outside_by g.S.Shelf.told g.S.Shelf.faults state c.args.shelf c.args.hands.now) (outside_by g.S.Shelf.told g.S.Shelf.faults state c.nothing-in-Err-Memory.result.devices c.sweep_all.new.hands)
          c.nothing-in-Err-Memory.result.trace c.nothing-in-Err-Memory.result.answers (c.nothing-in-Err-Memory.ensures.trace, c.nothing-in-Err-Memory.ensures.answers, ap g.S.Shelf.told c.nothing-in-Err-Memory.ensures.devices) c.sweep_all.ensures.same c.nothing-in-Err-Memory.result.outcome _ c.nothing-in-Err-Memory.ensures.outcome;
    }
