use Rattle.std.proofs.Common.{◌≡◌, true, [], None, is_some, refl, ap, subst}
use Rattle.event_core.specs.Enabled.{may_end_so}
use Rattle.event_core.specs.Standing.{module_of}
use Rattle.crew_modules.proofs.Counts.{installed, not_answered}
use Rattle.crew_modules.proofs.Ended.{ended_later, has_ended}
use Rattle.crew_turns.specs.Hands.{told_by}
use Rattle.crew_turns.specs.Stops.{freed_course}
use Rattle.crew_turns.specs.Seen.{course_by}
use Rattle.crew_turns.specs.Tasks.{plan_outline}
use Rattle.crew_modules.proofs.building.build_gathered.Goals as goal

pub end_module-requires : goal.end_module-requires
end_module-requires g c =
    let t = c.args.task.now in
    let may = (c.in-Err.ensures.stop None true).may in
    record {
      of = c.in-Err.ensures.of;
      whose = may.whose;
      held = c.in-Err.ensures.held;
      range = may.range;
      may = subst (λ names. may_end_so (plan_outline t) (freed_course (plan_outline t) [] names (course_by t.plan t.worker c.answer_goals.new.pass)) c.in-Err.ending ≡ true) c.in-Err.ensures.held (may.ends []);
    }

pub returns-in-Ok : goal.returns-in-Ok
returns-in-Ok g c =
    let hand = c.args.hand.now in
    record {
      ended = ended_later c.args.task.now c.args.lock.now c.install.result c.args.pass.now c.answer_goals.new.pass c.install.new.pass c.building_ends_none.ensures c.in-Ok.ensures.follows c.in-Ok.ensures.of
          (ap module_of c.requires.good.at.course) (ap module_of c.in-Ok.ensures.all.1.at.course) c.install.ensures.ended;
      fits = λ fit. c.install.ensures.fits (g.R.Remote.files hand.remote) (g.G.Gate.answers hand.gate) (c.in-Ok.ensures.fits (g.R.Remote.files hand.remote) (is_some (g.S.Area.Area.contents hand.area)) fit);
      worked = installed g.R.Remote.files g.R.Remote.faults g.S.Area.Area.contents g.S.Area.Area.faults g.S.Area.Area.pieces g.G.Gate.answers g.G.Gate.faults
          hand (record { remote = hand.remote; area = c.install.new.area; gate = c.answer_goals.new.gate }) c.install.result refl c.in-Ok.ensures.same c.in-Ok.ensures.cause c.install.ensures.area c.install.ensures.others;
    }

pub returns-in-Err : goal.returns-in-Err
returns-in-Err g c =
    let hand = c.args.hand.now in
    let files = g.R.Remote.files hand.remote in
    let area = is_some (g.S.Area.Area.contents hand.area) in
    let stop = c.in-Err.ensures.stop files area in
    record {
      ended = ended_later c.args.task.now c.args.lock.now c.end_module.result c.args.pass.now c.answer_goals.new.pass c.end_module.new.pass c.building_ends_none.ensures c.in-Err.ensures.follows c.in-Err.ensures.of
          (ap module_of c.requires.good.at.course) stop.may.whose (has_ended c.args.task.now c.args.lock.now c.end_module.result c.answer_goals.new.pass c.end_module.new.pass c.end_module.ensures.step);
      fits = λ fit. c.end_module.ensures.fits (told_by files area (g.G.Gate.answers hand.gate)) stop.fits (c.in-Err.ensures.fits files area fit);
      worked = not_answered g.R.Remote.files g.R.Remote.faults g.S.Area.Area.contents g.S.Area.Area.faults g.S.Area.Area.pieces g.G.Gate.answers g.G.Gate.faults
          hand (record { remote = hand.remote; area = hand.area; gate = c.answer_goals.new.gate }) c.in-Err.ending c.end_module.result c.end_module.ensures.settled.0 c.end_module.ensures.settled.1 refl refl c.in-Err.ensures.same c.in-Err.ensures.cause c.in-Err.ensures.others;
    }
