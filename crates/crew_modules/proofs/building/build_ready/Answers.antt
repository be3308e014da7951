use Rattle.std.proofs.Common.{length, None, refl, sym, ap, subst, ◌∙◌}
use Rattle.scripts.specs.Outlines.{files_read}
use Rattle.event_core.specs.Standing.{module_of}
use Rattle.crew_modules.proofs.Counts.{not_gathered}
use Rattle.crew_modules.proofs.Ended.{ended_later, follows_all}
use Rattle.crew_modules.proofs.Freed.{freed, path_stays}
use Rattle.crew_turns.specs.Hands.{state_by}
use Rattle.crew_turns.specs.Paths.{IsPath}
use Rattle.crew_turns.specs.Stages.{HasAnswered}
use Rattle.crew_turns.specs.Seen.{there_by, course_by}
use Rattle.crew_turns.specs.Tasks.{IsTask, plan_outline}
use Rattle.crew_turns.specs.Stops.{freed_course}
use Rattle.crew_modules.proofs.building.build_ready.Goals as goal

pub free_all-requires : goal.free_all-requires
free_all-requires g c = record {
  of = c.in-Ok.ensures.of;
  whose = ap module_of c.in-Ok.ensures.all.at.course;
  held = c.in-Ok.ensures.held ∙ sym (c.as_slice-batch.ensures ∙ ap (λ v. v.unit.batch) c.task.view_is);
}

pub build_gathered-requires : goal.build_gathered-requires
build_gathered-requires g c =
    let t = c.args.task.now in
    let mid = c.gather.new.pass in
    let pass = c.free_all.new.pass in
    let task = subst IsTask c.task.view_is c.task.invariant in
    let batch = c.as_slice-batch.ensures ∙ ap (λ v. v.unit.batch) c.task.view_is in
    record {
      few = c.requires.few;
      of = c.free_all.ensures.of;
      good =
          freed t c.args.lock.now mid pass task c.in-Ok.ensures.of c.free_all.ensures.of c.free_all.ensures.follows (length (files_read t.unit)) c.in-Ok.ensures.all refl c.in-Ok.ensures.within c.free_all.ensures.none
          (c.free_all.ensures.course ∙ ap (λ names. freed_course (plan_outline t) (there_by t.plan pass) names (course_by t.plan t.worker mid)) batch);
      path =
          subst (λ paths. IsPath t paths pass) (sym c.as_slice.ensures)
          (path_stays t c.args.lock.now mid pass task c.in-Ok.ensures.of c.free_all.ensures.of c.free_all.ensures.follows (length (files_read t.unit)) c.in-Ok.ensures.all c.in-Ok.paths c.in-Ok.ensures.path);
      beside = ap length c.as_slice.ensures ∙ c.in-Ok.ensures.beside;
    }

pub end_holding-requires : goal.end_holding-requires
end_holding-requires g c =
    let hand = c.args.hand.now in
    let told = (state_by g.R.Remote.files g.R.Remote.faults g.S.Area.Area.contents g.S.Area.Area.faults g.S.Area.Area.pieces g.G.Gate.answers g.G.Gate.faults hand).told in
    record {
      of = c.in-Err.ensures.of;
      held = c.in-Err.ensures.held ∙ sym (c.as_slice-batch.ensures ∙ ap (λ v. v.unit.batch) c.task.view_is);
      may = (c.in-Err.ensures.stop told).may;
    }

pub returns-in-Ok : goal.returns-in-Ok
returns-in-Ok g c =
    let t = c.args.task.now in
    let mid = c.gather.new.pass in
    let pass = c.free_all.new.pass in
    let hand = c.args.hand.now in
    let told = (state_by g.R.Remote.files g.R.Remote.faults g.S.Area.Area.contents g.S.Area.Area.faults g.S.Area.Area.pieces g.G.Gate.answers g.G.Gate.faults hand).told in
    let task = subst IsTask c.task.view_is c.task.invariant in
    let batch = c.as_slice-batch.ensures ∙ ap (λ v. v.unit.batch) c.task.view_is in
    let good : HasAnswered t 0 None pass =
    freed t c.args.lock.now mid pass task c.in-Ok.ensures.of c.free_all.ensures.of c.free_all.ensures.follows (length (files_read t.unit)) c.in-Ok.ensures.all refl c.in-Ok.ensures.within c.free_all.ensures.none
    (c.free_all.ensures.course ∙ ap (λ names. freed_course (plan_outline t) (there_by t.plan pass) names (course_by t.plan t.worker mid)) batch) in
    record {
      ended = ended_later t c.args.lock.now c.build_gathered.result c.args.pass.now pass c.build_gathered.new.pass c.building_ends_none.ensures
          (follows_all c.args.pass.now mid pass c.in-Ok.ensures.follows c.free_all.ensures.follows) c.free_all.ensures.of
          (ap module_of c.requires.at.at.course) (ap module_of good.at.course) c.build_gathered.ensures.ended;
      fits = λ fit. c.build_gathered.ensures.fits (c.free_all.ensures.fits told (c.in-Ok.ensures.fits told fit));
      worked = c.build_gathered.ensures.worked;
    }

pub returns-in-Err : goal.returns-in-Err
returns-in-Err g c =
    let t = c.args.task.now in
    let hand = state_by g.R.Remote.files g.R.Remote.faults g.S.Area.Area.contents g.S.Area.Area.faults g.S.Area.Area.pieces g.G.Gate.answers g.G.Gate.faults c.args.hand.now in
    let stop = c.in-Err.ensures.stop hand.told in
    record {
      ended = ended_later t c.args.lock.now c.end_holding.result c.args.pass.now c.gather.new.pass c.end_holding.new.pass c.building_ends_none.ensures c.in-Err.ensures.follows c.in-Err.ensures.of
          (ap module_of c.requires.at.at.course) stop.may.whose c.end_holding.ensures.ended;
      fits = λ fit. c.end_holding.ensures.fits hand.told stop (c.in-Err.ensures.fits hand.told fit);
      worked = not_gathered hand c.in-Err.ending c.end_holding.result c.end_holding.ensures.settled.0 c.end_holding.ensures.settled.1 c.in-Err.ensures.end;
    }
