use Rattle.std.proofs.Common.{None, Some, is_some, subst}
use Rattle.build_core.specs.declared.mode.Mode.TheVariants.{Exclusive}
use Rattle.crew_turns.specs.Stages.{IsTaken}
use Rattle.crew_modules.proofs.Taking.{follows_both}
use Rattle.crew_modules.proofs.Lasting.{fits_more, stops_still}
use Rattle.crew_modules.proofs.FilesLeaving.{fetched_more}
use Rattle.crew_modules.proofs.fetching.fetch_from.Goals as goal

pub loop-at-preserved : goal.loop-at-preserved
loop-at-preserved g c =
    let t = c.args.task.now in
    let files = g.R.Remote.files in
    let tells = g.S.Area.Area.contents in
    let inv = c.loop-at.invariant in
    let one = c.in-Ok-Some.ensures in
    record {
      of = one.of;
      follows = follows_both c.args.pass.now c.loop-at.pass c.fetch_file.new.pass inv.follows one.follows;
      lacks = subst (λ n. IsTaken t Exclusive n c.fetch_file.new.pass) c.in-Ok-Some.field-0-is one.next;
      fits =
          fits_more (files c.args.remote.now) (files c.loop-at.remote) (is_some (tells c.args.area.now)) (is_some (tells c.loop-at.area)) inv.devices.told inv.devices.area_left.tells
          t.plan t.worker c.args.pass.now c.loop-at.pass c.fetch_file.new.pass inv.fits one.fits;
      devices =
          fetched_more files g.R.Remote.faults tells g.S.Area.Area.faults g.S.Area.Area.pieces c.args.remote.now c.loop-at.remote c.fetch_file.new.remote c.args.area.now c.loop-at.area c.fetch_file.new.area None inv.devices one.devices;
    }

pub returns-in-Err-clause-stop : goal.returns-in-Err-clause-stop
returns-in-Err-clause-stop g c =
    let files = g.R.Remote.files in
    let tells = g.S.Area.Area.contents in
    let devices = c.loop-at.invariant.devices in
    stops_still (files c.args.remote.now) (files c.loop-at.remote) (is_some (tells c.args.area.now)) (is_some (tells c.loop-at.area)) devices.told devices.area_left.tells
    c.args.task.now c.in-Err.ending c.fetch_file.new.pass c.in-Err.ensures.stop

pub returns-in-Ok-None-clause-follows : goal.returns-in-Ok-None-clause-follows
returns-in-Ok-None-clause-follows g c = follows_both c.args.pass.now c.loop-at.pass c.fetch_file.new.pass c.loop-at.invariant.follows c.in-Ok-None.ensures.follows

pub returns-in-Ok-None-clause-fits : goal.returns-in-Ok-None-clause-fits
returns-in-Ok-None-clause-fits g c =
    let t = c.args.task.now in
    let files = g.R.Remote.files in
    let tells = g.S.Area.Area.contents in
    let inv = c.loop-at.invariant in
    fits_more (files c.args.remote.now) (files c.loop-at.remote) (is_some (tells c.args.area.now)) (is_some (tells c.loop-at.area)) inv.devices.told inv.devices.area_left.tells
    t.plan t.worker c.args.pass.now c.loop-at.pass c.fetch_file.new.pass inv.fits c.in-Ok-None.ensures.fits

pub returns-in-Ok-None-clause-devices : goal.returns-in-Ok-None-clause-devices
returns-in-Ok-None-clause-devices g c =
    fetched_more g.R.Remote.files g.R.Remote.faults g.S.Area.Area.contents g.S.Area.Area.faults g.S.Area.Area.pieces c.args.remote.now c.loop-at.remote c.fetch_file.new.remote c.args.area.now c.loop-at.area c.fetch_file.new.area None
    c.loop-at.invariant.devices c.in-Ok-None.ensures.devices

pub returns-in-Err-clause-follows : goal.returns-in-Err-clause-follows
returns-in-Err-clause-follows g c = follows_both c.args.pass.now c.loop-at.pass c.fetch_file.new.pass c.loop-at.invariant.follows c.in-Err.ensures.follows

pub returns-in-Err-clause-fits : goal.returns-in-Err-clause-fits
returns-in-Err-clause-fits g c =
    let t = c.args.task.now in
    let files = g.R.Remote.files in
    let tells = g.S.Area.Area.contents in
    let inv = c.loop-at.invariant in
    fits_more (files c.args.remote.now) (files c.loop-at.remote) (is_some (tells c.args.area.now)) (is_some (tells c.loop-at.area)) inv.devices.told inv.devices.area_left.tells
    t.plan t.worker c.args.pass.now c.loop-at.pass c.fetch_file.new.pass inv.fits c.in-Err.ensures.fits

pub returns-in-Err-clause-devices : goal.returns-in-Err-clause-devices
returns-in-Err-clause-devices g c =
    fetched_more g.R.Remote.files g.R.Remote.faults g.S.Area.Area.contents g.S.Area.Area.faults g.S.Area.Area.pieces c.args.remote.now c.loop-at.remote c.fetch_file.new.remote c.args.area.now c.loop-at.area c.fetch_file.new.area (Some c.in-Err.ending)
    c.loop-at.invariant.devices c.in-Err.ensures.devices
