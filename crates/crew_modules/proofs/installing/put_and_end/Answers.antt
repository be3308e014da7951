use Rattle.std.proofs.Common.{◌≡◌, [], ◌∷◌, ap, is_some, subst, sym, true, Some, unwrap_or, ◌∙◌}
use Rattle.build_core.specs.declared.mode.Mode.TheVariants.{Exclusive}
use Rattle.build_core.specs.Slots.{kept_of}
use Rattle.build_core.specs.OneThread.{lacks_artifact}
use Rattle.build_core.specs.declared.ending.Ending.TheVariants.{Built}
use Rattle.event_core.specs.Enabled.{is_due}
use Rattle.scripts.specs.declared.deed.Deed.TheVariants as deed
use Rattle.crew_turns.specs.Ends.{ends_as}
use Rattle.crew_turns.specs.Seen.{course_by}
use Rattle.crew_turns.specs.Tasks.{IsTask}
use Rattle.crew_turns.specs.Endings.{is_install_end}
use Rattle.crew_turns.specs.Hands.{IsAreaLeft, told_by}
use Rattle.crew_turns.specs.Stops.{MayEnd, MayStop}
use Rattle.crew_modules.proofs.InstallEnding.{behind_end, behind_held, behind_stops, behind_whose, end_blames, end_quiet, nothing_told, take_by}
use Rattle.crew_modules.proofs.InstallFitting.{area_ended}
use Rattle.crew_modules.proofs.Going.{goes_more, sound_unit, take_due, take_fits, take_goes, take_installing}
use Rattle.crew_modules.proofs.Owns.{some_own}
use Rattle.crew_modules.proofs.InstallStopping.{answered_whose, ended_behind, install_end_settled}
use Rattle.crew_modules.proofs.installing.put_and_end.Goals as goal

pub take_name-requires-clause-whose : goal.take_name-requires-clause-whose
take_name-requires-clause-whose g c = answered_whose c.args.task.now c.args.lock.now c.args.pass.now c.requires.of (subst IsTask c.task.view_is c.task.invariant) c.requires.good.0 c.requires.good.1

pub take_name-requires-clause-due : goal.take_name-requires-clause-due
take_name-requires-clause-due g c =
    let t = c.args.task.now in
    subst (λ n. is_due (course_by t.plan t.worker c.args.pass.now) (deed.Take Exclusive n) ≡ true) (sym (ap (λ v. v.unit.own_name) c.task.view_is))
    (take_due t c.args.lock.now c.args.pass.now c.requires.of (subst IsTask c.task.view_is c.task.invariant) c.requires.good.0 c.requires.good.1 c.requires.installs)

pub take_name-requires-clause-fits : goal.take_name-requires-clause-fits
take_name-requires-clause-fits g c =
    let t = c.args.task.now in
    take_fits t c.args.lock.now c.args.pass.now c.requires.of (subst IsTask c.task.view_is c.task.invariant) c.requires.good.0 c.requires.good.1 c.requires.installs (ap (lacks_artifact t.unit) (sym c.requires.own) ∙ c.requires.lacks)

pub put_files-stop-requires-clause-of : goal.put_files-stop-requires-clause-of
put_files-stop-requires-clause-of g c = c.take_name.ensures.step.of

pub put_files-stop-requires-clause-at : goal.put_files-stop-requires-clause-at
put_files-stop-requires-clause-at g c =
    let t = c.args.task.now in
    take_installing t c.args.lock.now c.args.pass.now c.requires.of (subst IsTask c.task.view_is c.task.invariant) c.requires.good.0 c.requires.good.1 c.requires.installs (ap (lacks_artifact t.unit) (sym c.requires.own) ∙ c.requires.lacks)
    c.take_name.new.pass (take_by t c.args.lock.now c.args.pass.now c.take_name.new.pass c.task.inside.unit.now.own_name (ap (λ v. v.unit.own_name) c.task.view_is) c.take_name.ensures.step)

pub put_files-stop-requires-clause-own : goal.put_files-stop-requires-clause-own
put_files-stop-requires-clause-own g c =
    let t = c.args.task.now in
    let goes = take_goes t c.args.lock.now c.args.pass.now c.requires.of (subst IsTask c.task.view_is c.task.invariant) c.requires.good.0 c.requires.good.1 c.requires.installs (ap (lacks_artifact t.unit) (sym c.requires.own) ∙ c.requires.lacks)
    c.take_name.new.pass (take_by t c.args.lock.now c.args.pass.now c.take_name.new.pass c.task.inside.unit.now.own_name (ap (λ v. v.unit.own_name) c.task.view_is) c.take_name.ensures.step) in
    c.requires.own ∙ sym (ap kept_of goes.goals)

pub end_holding-requires-clause-of : goal.end_holding-requires-clause-of
end_holding-requires-clause-of g c = c.put_files-stop.ensures.has.on.of

pub end_holding-requires-clause-held : goal.end_holding-requires-clause-held
end_holding-requires-clause-held g c =
    let t = c.args.task.now in
    let is = subst IsTask c.task.view_is c.task.invariant in
    let some = some_own t.unit.own (sound_unit t c.args.lock.now c.args.pass.now c.requires.of is).pom in
    behind_held t c.put_files-stop.new.pass some c.put_files-stop.result c.put_files-stop.ensures.behind ∙ ap (λ n. n ∷ []) (sym (ap (λ v. v.unit.own_name) c.task.view_is))

pub end_holding-requires-clause-may : goal.end_holding-requires-clause-may
end_holding-requires-clause-may g c =
    let t = c.args.task.now in
    let is = subst IsTask c.task.view_is c.task.invariant in
    let some = some_own t.unit.own (sound_unit t c.args.lock.now c.args.pass.now c.requires.of is).pom in
    subst (λ e. MayEnd t e c.put_files-stop.new.pass) (sym c.unwrap_or-ending.ensures)
    (behind_stops t c.put_files-stop.new.pass some nothing_told c.put_files-stop.result c.put_files-stop.ensures.behind c.put_files-stop.ensures.put).may

pub returns-clause-ended : goal.returns-clause-ended
returns-clause-ended g c =
    let t = c.args.task.now in
    let is = subst IsTask c.task.view_is c.task.invariant in
    let some = some_own t.unit.own (sound_unit t c.args.lock.now c.args.pass.now c.requires.of is).pom in
    let goes = take_goes t c.args.lock.now c.args.pass.now c.requires.of is c.requires.good.0 c.requires.good.1 c.requires.installs (ap (lacks_artifact t.unit) (sym c.requires.own) ∙ c.requires.lacks)
    c.take_name.new.pass (take_by t c.args.lock.now c.args.pass.now c.take_name.new.pass c.task.inside.unit.now.own_name (ap (λ v. v.unit.own_name) c.task.view_is) c.take_name.ensures.step) in
    let all = goes_more t c.args.lock.now c.args.pass.now c.take_name.new.pass c.put_files-stop.new.pass goes c.put_files-stop.ensures.has.on in
    ended_behind t c.args.lock.now c.end_holding.result c.args.pass.now c.put_files-stop.new.pass c.end_holding.new.pass all.of.run
    (answered_whose t c.args.lock.now c.args.pass.now c.requires.of is c.requires.good.0 c.requires.good.1) all.follows
    (behind_whose t c.put_files-stop.new.pass some c.put_files-stop.result c.put_files-stop.ensures.behind) c.end_holding.ensures.ended

pub returns-clause-fits : goal.returns-clause-fits
returns-clause-fits g c =
    let t = c.args.task.now in
    let is = subst IsTask c.task.view_is c.task.invariant in
    let some = some_own t.unit.own (sound_unit t c.args.lock.now c.args.pass.now c.requires.of is).pom in
    λ remote gate fit.
    c.end_holding.ensures.fits (told_by remote (is_some (g.S.Area.Area.contents c.args.area.now)) gate)
    (subst (λ e. MayStop t (told_by remote (is_some (g.S.Area.Area.contents c.args.area.now)) gate) e c.put_files-stop.new.pass) (sym c.unwrap_or-ending.ensures)
    (behind_stops t c.put_files-stop.new.pass some (told_by remote (is_some (g.S.Area.Area.contents c.args.area.now)) gate) c.put_files-stop.result c.put_files-stop.ensures.behind c.put_files-stop.ensures.put))
    (c.put_files-stop.ensures.has.fits remote gate (c.take_name.ensures.fits (told_by remote (is_some (g.S.Area.Area.contents c.args.area.now)) gate) fit))

pub returns-clause-area : goal.returns-clause-area
returns-clause-area g c =
    let settled = c.end_holding.ensures.settled in
    subst (λ e. IsAreaLeft g.S.Area.Area.contents g.S.Area.Area.faults g.S.Area.Area.pieces c.args.area.now c.put_files-stop.new.area (Some e))
    (sym (settled.1 ∙ ap (λ e. ends_as e settled.0) c.unwrap_or-ending.ensures))
    (area_ended g.S.Area.Area.contents g.S.Area.Area.faults g.S.Area.Area.pieces c.args.area.now c.put_files-stop.new.area c.put_files-stop.result (unwrap_or c.put_files-stop.result Built) settled.0
    (end_blames c.put_files-stop.result) (end_quiet c.put_files-stop.result) c.put_files-stop.ensures.has.area_left)

pub returns-clause-end : goal.returns-clause-end
returns-clause-end g c =
    let t = c.args.task.now in
    let is = subst IsTask c.task.view_is c.task.invariant in
    let some = some_own t.unit.own (sound_unit t c.args.lock.now c.args.pass.now c.requires.of is).pom in
    let settled = c.end_holding.ensures.settled in
    subst (λ e. is_install_end e ≡ true) (sym (settled.1 ∙ ap (λ e. ends_as e settled.0) c.unwrap_or-ending.ensures))
    (install_end_settled (unwrap_or c.put_files-stop.result Built) settled.0 (behind_end t c.put_files-stop.new.pass some c.put_files-stop.result c.put_files-stop.ensures.behind))
