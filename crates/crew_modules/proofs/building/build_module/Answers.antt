use Rattle.std.proofs.Common.{◌∷◌, [], None, refl, sym, ap, subst, ◌∙◌}
use Rattle.event_core.specs.Standing.{module_of}
use Rattle.crew_modules.proofs.Counts.{not_ready, ready}
use Rattle.crew_modules.proofs.Ended.{ended_later}
use Rattle.crew_turns.specs.Hands.{IsWorked, state_by}
use Rattle.crew_turns.specs.Seen.{KeepsFit}
use Rattle.crew_modules.proofs.building.build_module.Goals as goal

pub end_holding-requires : goal.end_holding-requires
end_holding-requires g c = record {
  of = c.in-Some.ensures.of;
  held = c.in-Some.ensures.held ∙ sym (c.as_slice.ensures ∙ ap (λ v. v.unit.batch) c.task.view_is);
  may = (c.in-Some.ensures.stop None).may;
}

pub returns-in-Some : goal.returns-in-Some
returns-in-Some g c =
    let t = c.args.task.now in
    let hand = c.args.hand.now in
    let state = state_by g.R.Remote.files g.R.Remote.faults g.S.Area.Area.contents g.S.Area.Area.faults g.S.Area.Area.pieces g.G.Gate.answers g.G.Gate.faults hand in
    let stop = c.in-Some.ensures.stop (g.G.Gate.answers hand.gate) in
    record {
      ended = ended_later t c.args.lock.now c.end_holding.result c.args.pass.now c.make_ready.new.pass c.end_holding.new.pass c.building_ends_none.ensures c.in-Some.ensures.follows c.in-Some.ensures.of
          (ap module_of c.requires.begun.course) stop.may.whose c.end_holding.ensures.ended;
      fits = λ fit. c.end_holding.ensures.fits state.told stop (c.in-Some.ensures.fits (g.G.Gate.answers hand.gate) fit);
      worked = not_ready g.R.Remote.files g.R.Remote.faults g.S.Area.Area.contents g.S.Area.Area.faults g.S.Area.Area.pieces g.G.Gate.answers g.G.Gate.faults
          hand (record { remote = c.make_ready.new.remote; area = c.make_ready.new.area; gate = hand.gate }) c.in-Some.ending c.end_holding.result c.end_holding.ensures.settled.0 c.end_holding.ensures.settled.1 refl c.in-Some.ensures.gate c.in-Some.ensures.devices;
    }

pub returns-in-None : goal.returns-in-None
returns-in-None g c =
    let t = c.args.task.now in
    let hand = c.args.hand.now in
    let same = ready g.R.Remote.files g.R.Remote.faults g.S.Area.Area.contents g.S.Area.Area.faults g.S.Area.Area.pieces g.G.Gate.answers g.G.Gate.faults
    hand (record { remote = c.make_ready.new.remote; area = c.make_ready.new.area; gate = hand.gate }) refl c.in-None.ensures.devices in
    record {
      ended = ended_later t c.args.lock.now c.build_ready.result c.args.pass.now c.make_ready.new.pass c.build_ready.new.pass c.building_ends_none.ensures c.in-None.ensures.follows c.in-None.ensures.of
          (ap module_of c.requires.begun.course) (ap module_of (c.in-None.ensures.all refl).at.course) c.build_ready.ensures.ended;
      fits = λ fit. subst (λ s. KeepsFit t.plan t.worker s.told c.make_ready.new.pass c.build_ready.new.pass) same c.build_ready.ensures.fits (c.in-None.ensures.fits (g.G.Gate.answers hand.gate) fit);
      worked = subst (λ s. IsWorked s (state_by g.R.Remote.files g.R.Remote.faults g.S.Area.Area.contents g.S.Area.Area.faults g.S.Area.Area.pieces g.G.Gate.answers g.G.Gate.faults c.build_ready.new.hand) (c.build_ready.result ∷ [])) same c.build_ready.ensures.worked;
    }
