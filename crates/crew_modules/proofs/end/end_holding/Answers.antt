use Rattle.std.proofs.Common.{subst}
use Rattle.crew_turns.specs.Tasks.{IsTask}
use Rattle.crew_modules.proofs.BatchEnding.{fits_freed, has_ended, may_here, range_here, whose_freed}
use Rattle.crew_modules.proofs.end.end_holding.Goals as goal

pub free_all-requires-clause-whose : goal.free_all-requires-clause-whose
free_all-requires-clause-whose g c = c.requires.may.whose

pub end_module-requires : goal.end_module-requires
end_module-requires g c =
    let t = c.args.task.now in
    record {
      of = c.free_all.ensures.of;
      whose = whose_freed t c.args.lock.now c.args.names.now c.args.ending c.args.pass.now c.free_all.new.pass c.requires.held c.requires.may c.free_all.ensures.course;
      held = c.free_all.ensures.none;
      range = range_here t c.args.lock.now c.args.names.now c.args.ending c.args.pass.now c.free_all.new.pass c.requires.held c.requires.may c.free_all.ensures.course;
      may = may_here t c.args.lock.now c.args.names.now c.args.ending c.args.pass.now c.free_all.new.pass c.requires.held c.requires.may c.free_all.ensures.course;
    }

pub returns-clause-ended : goal.returns-clause-ended
returns-clause-ended g c =
    has_ended c.args.task.now c.args.lock.now c.args.names.now c.args.ending c.args.pass.now c.free_all.new.pass c.requires.held c.requires.may c.free_all.ensures.course
    c.free_all.ensures.of c.free_all.ensures.follows c.end_module.result c.end_module.new.pass c.end_module.ensures.step

pub returns-clause-fits : goal.returns-clause-fits
returns-clause-fits g c =
    λ told stop keeps.
    c.end_module.ensures.fits told
    (fits_freed c.args.task.now c.args.lock.now c.args.names.now c.args.ending c.args.pass.now c.free_all.new.pass c.requires.held c.requires.may c.free_all.ensures.course
    c.free_all.ensures.of c.free_all.ensures.follows (subst IsTask c.task.view_is c.task.invariant) c.free_all.ensures.stood told stop.fits)
    (c.free_all.ensures.fits told keeps)
