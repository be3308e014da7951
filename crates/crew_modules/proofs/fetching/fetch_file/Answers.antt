use Rattle.std.proofs.Common.{◌≡◌, ◌<◌, true, None, IfSome, get_or, is_some, length, ap, sym, subst, ◌∙◌}
use Rattle.std.specs.FinMap as map
use Rattle.mvn_outside.proofs.Stages.{put_there}
use Rattle.build_core.specs.OneThread.{name_of, remote_bytes}
use Rattle.build_core.specs.declared.ending.Ending.TheVariants.{Missing}
use Rattle.build_core.specs.declared.event.Event.TheVariants as event
use Rattle.event_core.specs.Enabled.{is_due}
use Rattle.scripts.specs.Outlines.{is_listed}
use Rattle.scripts.specs.declared.deed.Deed.TheVariants as deed
use Rattle.crew_turns.specs.Seen.{Steps, course_by}
use Rattle.crew_turns.specs.Tasks.{IsTask}
use Rattle.crew_turns.specs.Hands.{told_by}
use Rattle.crew_turns.specs.Stops.{MayStop}
use Rattle.crew_modules.specs.Fetched.{IsPieceEnd}
use Rattle.crew_modules.proofs.FilesFitting.{fits_piece}
use Rattle.crew_modules.proofs.FilesLeaving.{published_left}
use Rattle.crew_modules.proofs.Placing.{due, listed_at, publish_keeps, taken}
use Rattle.crew_modules.proofs.FilesStopping.{file_low, lacks_still, publish_stops, stops}
use Rattle.crew_modules.proofs.fetching.fetch_file.Goals as goal

pub fetch_piece-requires : goal.fetch_piece-requires
fetch_piece-requires g c =
    let t = c.args.task.now in
    let same = ap (λ xs. get_or xs c.args.at 0) (c.as_slice.ensures ∙ ap (λ v. v.unit.fetch) c.task.view_is) in
    record { file = subst (λ f. f < length t.plan.files) (sym same) (file_low t c.args.at (subst IsTask c.task.view_is c.task.invariant) c.requires.of.sound c.requires.at.0) }

pub publish_piece-requires-clause-due : goal.publish_piece-requires-clause-due
publish_piece-requires-clause-due g c =
    let t = c.args.task.now in
    let same = ap (λ xs. get_or xs c.args.at 0) (c.as_slice.ensures ∙ ap (λ v. v.unit.fetch) c.task.view_is) in
    subst (λ f. is_due (course_by t.plan t.worker c.args.pass.now) (deed.Publish f) ≡ true) (sym same)
    (due t c.args.at c.args.lock.now c.args.pass.now (subst IsTask c.task.view_is c.task.invariant) c.requires.of c.requires.at)

pub publish_piece-requires-clause-sealed : goal.publish_piece-requires-clause-sealed
publish_piece-requires-clause-sealed g c = ap (λ m. map.get m c.in-Ok.piece) c.in-Ok.ensures.sealed ∙ put_there (g.S.Area.Area.pieces c.args.area.now) c.in-Ok.piece true

pub returns-in-Ok-publish_piece-clause-next : goal.returns-in-Ok-publish_piece-clause-next
returns-in-Ok-publish_piece-clause-next g c =
    let t = c.args.task.now in
    let same = ap (λ xs. get_or xs c.args.at 0) (c.as_slice.ensures ∙ ap (λ v. v.unit.fetch) c.task.view_is) in
    let step = subst (λ f. Steps t.plan c.args.lock.now t.worker (event.Publish t.worker f) c.args.pass.now c.publish_piece.new.pass) same c.in-Ok-publish_piece.ensures.ok in
    taken t c.args.at c.args.lock.now c.args.pass.now (subst IsTask c.task.view_is c.task.invariant) c.requires.of c.requires.at c.publish_piece.new.pass step c.in-Ok-publish_piece.next c.in-Ok-publish_piece.ensures.absent

pub returns-in-Ok-publish_piece-clause-held : goal.returns-in-Ok-publish_piece-clause-held
returns-in-Ok-publish_piece-clause-held g c =
    let t = c.args.task.now in
    let same = ap (λ xs. get_or xs c.args.at 0) (c.as_slice.ensures ∙ ap (λ v. v.unit.fetch) c.task.view_is) in
    let step = subst (λ f. Steps t.plan c.args.lock.now t.worker (event.Publish t.worker f) c.args.pass.now c.publish_piece.new.pass) same c.in-Ok-publish_piece.ensures.ok in
    publish_keeps t c.args.at c.args.lock.now c.args.pass.now (subst IsTask c.task.view_is c.task.invariant) c.requires.of c.requires.at c.publish_piece.new.pass step

pub returns-in-Ok-publish_piece-clause-fits : goal.returns-in-Ok-publish_piece-clause-fits
returns-in-Ok-publish_piece-clause-fits g c =
    let t = c.args.task.now in
    let same = ap (λ xs. get_or xs c.args.at 0) (c.as_slice.ensures ∙ ap (λ v. v.unit.fetch) c.task.view_is) in
    let remote = g.R.Remote.files c.args.remote.now in
    let area = g.S.Area.Area.contents c.args.area.now in
    let listed = subst (λ f. is_listed f t.unit.fetch ≡ true) (sym same) (listed_at t.unit.fetch c.args.at c.requires.at.0) in
    λ gate.
    c.in-Ok-publish_piece.ensures.fits (told_by remote (is_some area) gate)
    (fits_piece t c.args.pass.now (get_or c.as_slice.result.now c.args.at 0) remote area (g.S.Area.Area.contents c.fetch_piece.new.area) c.in-Ok.piece gate listed c.in-Ok.ensures.tells c.in-Ok.ensures.bytes)

pub returns-in-Ok-publish_piece-clause-devices : goal.returns-in-Ok-publish_piece-clause-devices
returns-in-Ok-publish_piece-clause-devices g c =
    let f = c.in-Ok.ensures in
    let p = c.in-Ok-publish_piece.ensures in
    published_left g.R.Remote.files g.R.Remote.faults g.S.Area.Area.contents g.S.Area.Area.faults g.S.Area.Area.pieces c.args.remote.now c.fetch_piece.new.remote c.args.area.now c.fetch_piece.new.area c.publish_piece.new.area c.in-Ok.piece
    f.same f.remote_cause f.tells f.area_cause p.area f.fresh f.sealed p.taken.0 p.taken.1

pub returns-in-Err-publish_piece-clause-stop : goal.returns-in-Err-publish_piece-clause-stop
returns-in-Err-publish_piece-clause-stop g c =
    let t = c.args.task.now in
    let lacks = lacks_still t c.args.at c.args.lock.now c.args.pass.now c.publish_piece.new.pass c.in-Err-publish_piece.ensures.err c.requires.at in
    λ gate.
    let told = told_by (g.R.Remote.files c.args.remote.now) (is_some (g.S.Area.Area.contents c.args.area.now)) gate in
    subst (λ e. MayStop t told e c.publish_piece.new.pass) (sym c.publish_end.ensures)
    (publish_stops t c.args.at (subst IsTask c.task.view_is c.task.invariant) c.requires.of.sound c.publish_piece.new.pass told c.in-Err-publish_piece.fault lacks)

pub returns-in-Err-publish_piece-clause-held : goal.returns-in-Err-publish_piece-clause-held
returns-in-Err-publish_piece-clause-held g c = (lacks_still c.args.task.now c.args.at c.args.lock.now c.args.pass.now c.publish_piece.new.pass c.in-Err-publish_piece.ensures.err c.requires.at).1.held

pub returns-in-Err-publish_piece-clause-fits : goal.returns-in-Err-publish_piece-clause-fits
returns-in-Err-publish_piece-clause-fits g c =
    let t = c.args.task.now in
    let same = ap (λ xs. get_or xs c.args.at 0) (c.as_slice.ensures ∙ ap (λ v. v.unit.fetch) c.task.view_is) in
    let remote = g.R.Remote.files c.args.remote.now in
    let area = g.S.Area.Area.contents c.args.area.now in
    let listed = subst (λ f. is_listed f t.unit.fetch ≡ true) (sym same) (listed_at t.unit.fetch c.args.at c.requires.at.0) in
    λ gate.
    c.in-Err-publish_piece.ensures.fits (told_by remote (is_some area) gate)
    (fits_piece t c.args.pass.now (get_or c.as_slice.result.now c.args.at 0) remote area (g.S.Area.Area.contents c.fetch_piece.new.area) c.in-Ok.piece gate listed c.in-Ok.ensures.tells c.in-Ok.ensures.bytes)

pub returns-in-Err-clause-stop : goal.returns-in-Err-clause-stop
returns-in-Err-clause-stop g c =
    let t = c.args.task.now in
    let same = ap (λ xs. get_or xs c.args.at 0) (c.as_slice.ensures ∙ ap (λ v. v.unit.fetch) c.task.view_is) in
    let remote = g.R.Remote.files c.args.remote.now in
    λ gate.
    stops t c.args.at (subst IsTask c.task.view_is c.task.invariant) c.requires.of.sound c.args.pass.now (told_by remote (is_some (g.S.Area.Area.contents c.args.area.now)) gate) c.in-Err.ending c.requires.at
    (subst (λ f. IsPieceEnd f c.in-Err.ending) same c.in-Err.ensures.err)
    (subst (λ f. c.in-Err.ending ≡ Missing f → IfSome remote (λ files. remote_bytes files (name_of t.plan f) ≡ None)) same c.in-Err.ensures.missing)
