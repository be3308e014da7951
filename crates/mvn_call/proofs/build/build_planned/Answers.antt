use Rattle.std.proofs.Common.{List, ap, map, subst}
use Rattle.report.specs.declared.details.Details.{Details}
use Rattle.crew_turns.specs.Hands.{state_by}
use Rattle.build_outcome.specs.Left.{Outside, outside_by}
use Rattle.build_outcome.specs.Reports.{Reports}
use Rattle.build_outcome.proofs.Idle.{without_memory}
use Rattle.call_plan.specs.Headline.{told_of}
use Rattle.mvn_call.proofs.First.{same_tells}
use Rattle.mvn_call.proofs.Besides.{told_by}
use Rattle.mvn_call.proofs.build.build_planned.Goals as goal

pub returns-in-Ok : goal.returns-in-Ok
returns-in-Ok g c =
    let run = c.run_and_report in
    let p = c.args.planned.now in
    let before : Outside = outside_by g.S.Shelf.told g.S.Shelf.faults (state_by g.R.Remote.files g.R.Remote.faults g.S.Area.Area.contents g.S.Area.Area.faults g.S.Area.Area.pieces g.G.Gate.answers g.G.Gate.faults) c.args.shelf c.args.hands.now in
    let now : Outside = outside_by g.S.Shelf.told g.S.Shelf.faults (state_by g.R.Remote.files g.R.Remote.faults g.S.Area.Area.contents g.S.Area.Area.faults g.S.Area.Area.pieces g.G.Gate.answers g.G.Gate.faults) run.result.devices run.new.hands in
    let is = told_by c.args.full p c.as_slice-models.result.now c.as_slice-resolutions.result.now c.as_slice.result.now c.in-Ok.details c.as_slice-models.ensures c.as_slice-resolutions.ensures c.as_slice.ensures c.in-Ok.ensures in
    subst (λ (d : List Details). Reports p.plan d before now run.result.trace run.result.answers run.result.outcome) is run.ensures.reports

pub returns-in-Err : goal.returns-in-Err
returns-in-Err g c =
    let p = c.args.planned.now in
    let call = c.nothing in
    let before : Outside = outside_by g.S.Shelf.told g.S.Shelf.faults (state_by g.R.Remote.files g.R.Remote.faults g.S.Area.Area.contents g.S.Area.Area.faults g.S.Area.Area.pieces g.G.Gate.answers g.G.Gate.faults) c.args.shelf c.args.hands.now in
    let now : Outside = outside_by g.S.Shelf.told g.S.Shelf.faults (state_by g.R.Remote.files g.R.Remote.faults g.S.Area.Area.contents g.S.Area.Area.faults g.S.Area.Area.pieces g.G.Gate.answers g.G.Gate.faults) call.result.devices c.args.hands.now in
    without_memory p.plan (told_of c.args.full p) before now call.result.trace call.result.answers
    (call.ensures.trace, call.ensures.answers, ap g.S.Shelf.told call.ensures.devices) (same_tells (map (state_by g.R.Remote.files g.R.Remote.faults g.S.Area.Area.contents g.S.Area.Area.faults g.S.Area.Area.pieces g.G.Gate.answers g.G.Gate.faults) c.args.hands.now))
    call.result.outcome c.in-Err.error call.ensures.outcome
