use Rattle.std.proofs.Common.{sym, subst}
use Rattle.build_core.specs.declared.event.Event.TheVariants as event
use Rattle.scripts.specs.declared.deed.Deed.TheVariants as deed
use Rattle.crew_turns.specs.Tasks.{IsTask}
use Rattle.crew_modules.proofs.Taking.{HasWaited, due_later, steps_behind, take_later, waited_more, whose_later}
use Rattle.crew_modules.proofs.batch.take_name.Goals as goal

pub try_name-requires-clause-whose : goal.try_name-requires-clause-whose
try_name-requires-clause-whose g c =
    let t = c.args.task.now in
    whose_later t.plan c.args.lock.now t.worker c.args.pass.now c.loop.pass c.loop.invariant.sees t.number c.requires.whose

pub try_name-requires-clause-due : goal.try_name-requires-clause-due
try_name-requires-clause-due g c =
    let t = c.args.task.now in
    due_later t.plan c.args.lock.now t.worker c.args.pass.now c.loop.pass c.loop.invariant.sees (deed.Take c.args.mode c.args.name) c.requires.due

pub try_name-requires-clause-fits : goal.try_name-requires-clause-fits
try_name-requires-clause-fits g c =
    let t = c.args.task.now in
    take_later t.plan c.args.lock.now t.worker c.args.pass.now c.loop.pass c.loop.invariant.sees t.number t.unit c.requires.whose (subst IsTask c.task.view_is c.task.invariant) c.requires.fits

pub returns-in-Taken-clause-step : goal.returns-in-Taken-clause-step
returns-in-Taken-clause-step g c =
    let t = c.args.task.now in
    steps_behind t.plan c.args.lock.now t.worker c.args.pass.now c.loop.pass c.try_name.new.pass c.loop.invariant.sees (event.Take t.worker c.args.name c.args.mode) c.in-Taken.ensures.turn.0

pub loop-preserved : goal.loop-preserved
loop-preserved g c =
    let t = c.args.task.now in
    subst (HasWaited t.plan c.args.lock.now t.worker c.args.pass.now) (sym c.rest.ensures)
    (waited_more t.plan c.args.lock.now t.worker c.args.pass.now c.loop.pass c.try_name.new.pass c.loop.invariant c.in-Busy.ensures.turn c.in-Busy.ensures.fits)
