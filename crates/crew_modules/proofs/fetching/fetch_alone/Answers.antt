use Rattle.std.proofs.Common.{◌≡◌, is_some, ap, subst, ◌∙◌}
use Rattle.crew_turns.specs.Seen.{course_by, there_by}
use Rattle.crew_turns.specs.Tasks.{plan_outline}
use Rattle.crew_turns.specs.Hands.{told_by}
use Rattle.crew_turns.specs.Stops.{freed_course}
use Rattle.crew_modules.proofs.Taking.{follows_both}
use Rattle.crew_modules.proofs.Lasting.{freed_takes}
use Rattle.crew_modules.proofs.FilesLeaving.{untouched}
use Rattle.crew_modules.proofs.fetching.fetch_alone.Goals as goal

pub take_batch-requires-clause-at : goal.take_batch-requires-clause-at
take_batch-requires-clause-at g c =
    let t = c.args.task.now in
    let pass = c.free_all.new.pass in
    let same = c.as_slice-batch.ensures ∙ ap (λ v. v.unit.batch) c.task.view_is in
    freed_takes t c.args.pass.now pass c.requires.some c.requires.lacks c.free_all.ensures.none
    (subst (λ names. course_by t.plan t.worker pass ≡ freed_course (plan_outline t) (there_by t.plan pass) names (course_by t.plan t.worker c.args.pass.now)) same c.free_all.ensures.course)

pub returns-in-Some-clause-follows : goal.returns-in-Some-clause-follows
returns-in-Some-clause-follows g c =
    follows_both c.args.pass.now c.free_all.new.pass c.fetch_from.new.pass c.free_all.ensures.follows
    (follows_both c.free_all.new.pass c.take_batch.new.pass c.fetch_from.new.pass c.in-Some.ensures.follows c.fetch_from.ensures.follows)

pub returns-in-Some-clause-fits : goal.returns-in-Some-clause-fits
returns-in-Some-clause-fits g c = λ gate fits.
    let told = told_by (g.R.Remote.files c.args.remote.now) (is_some (g.S.Area.Area.contents c.args.area.now)) gate in
    c.fetch_from.ensures.fits gate (c.in-Some.ensures.fits told (c.free_all.ensures.fits told fits))

pub returns-in-None-clause-follows : goal.returns-in-None-clause-follows
returns-in-None-clause-follows g c = follows_both c.args.pass.now c.free_all.new.pass c.take_batch.new.pass c.free_all.ensures.follows c.in-None.ensures.follows

pub returns-in-None-clause-fits : goal.returns-in-None-clause-fits
returns-in-None-clause-fits g c = λ gate fits.
    let told = told_by (g.R.Remote.files c.args.remote.now) (is_some (g.S.Area.Area.contents c.args.area.now)) gate in
    c.in-None.ensures.fits told (c.free_all.ensures.fits told fits)

pub returns-in-None-clause-devices : goal.returns-in-None-clause-devices
returns-in-None-clause-devices g c =
    untouched g.R.Remote.files g.R.Remote.faults g.S.Area.Area.contents g.S.Area.Area.faults g.S.Area.Area.pieces c.args.remote.now c.args.area.now
