use Rattle.std.proofs.Common.{◌≡◌, length, arith, sym, subst, ◌∙◌}
use Rattle.report.specs.Rows.{NamesFiles}
use Rattle.crew_turns.specs.Hands.{state_by}
use Rattle.build_outcome.proofs.Endings.{run_named}
use Rattle.build_outcome.proofs.Finishing.{build_reported}
use Rattle.build_outcome.proofs.Idle.{memory_is, nothing_built}
use Rattle.build_outcome.proofs.build.build_swept.Goals as goal

pub finish-requires : goal.finish-requires
finish-requires g c =
    let end = c.in-Ok.ensures.built in
    record { named = subst (NamesFiles c.args.plan.now) (sym end.1.states) (run_named c.args.plan.now end.0 c.requires.sound end.1.follows) }

pub returns-in-Ok : goal.returns-in-Ok
returns-in-Ok g c = λ before swept.
    let state = state_by g.R.Remote.files g.R.Remote.faults g.S.Area.Area.contents g.S.Area.Area.faults g.S.Area.Area.pieces g.G.Gate.answers g.G.Gate.faults in
    let kept = c.build_all.auto.hands in
    let long : length c.build_all.new.hands ≡ length c.args.hands.now = omega (arith, kept) in
    build_reported g.S.Shelf.told g.S.Shelf.faults state c.args.plan.now c.args.details c.args.shelf c.args.hands.now c.build_all.new.hands before c.in-Ok.left c.finish.result
    c.requires.sound c.requires.hands c.requires.present swept long c.in-Ok.ensures.built c.finish.ensures

pub returns-in-Err : goal.returns-in-Err
returns-in-Err g c = λ before swept.
    let state = state_by g.R.Remote.files g.R.Remote.faults g.S.Area.Area.contents g.S.Area.Area.faults g.S.Area.Area.pieces g.G.Gate.answers g.G.Gate.faults in
    let call = c.given_back.result in
    nothing_built g.S.Shelf.told g.S.Shelf.faults state c.args.plan.now c.args.details c.args.shelf c.args.hands.now c.build_all.new.hands before call
    swept c.in-Err.ensures.unused (memory_is call.devices c.args.shelf (sym c.given_back.ensures.shelf ∙ c.in-Err.ensures.err)) c.given_back.ensures.trace c.given_back.ensures.answers c.given_back.ensures.outcome
