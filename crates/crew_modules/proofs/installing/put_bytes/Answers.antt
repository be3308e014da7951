use Rattle.std.proofs.Common.{ap, refl, subst, sym, true, None, Some, is_some, slice_index_or, ◌∙◌}
use Rattle.std.specs.FinMap as finite
use Rattle.goal_types.specs.declared.goal.Slot.TheVariants.{Nowhere}
use Rattle.mvn_outside.proofs.NumberMaps.{put_there}
use Rattle.build_core.specs.declared.plan.OwnFile.{OwnFile}
use Rattle.scripts.specs.ScriptPlaces.{rest_of}
use Rattle.scripts.specs.declared.script_place.ScriptPlace.TheVariants as place
use Rattle.crew_turns.specs.Tasks.{IsTask, unit_outline}
use Rattle.crew_turns.specs.Hands.{told_by}
use Rattle.crew_turns.specs.Pieces.{FitsPiece}
use Rattle.crew_modules.specs.Putting.{HasPut, is_put_end}
use Rattle.crew_modules.proofs.InstallFitting.{area_put, area_unput, fits_piece, publish_put_end, put_once}
use Rattle.crew_modules.proofs.Going.{put_due, put_goes, put_installing, put_is, sees_goes, sees_installing}
use Rattle.crew_modules.proofs.Owns.{read_at}
use Rattle.crew_modules.proofs.installing.put_bytes.Goals as goal

pub publish_piece-requires-clause-due : goal.publish_piece-requires-clause-due
publish_piece-requires-clause-due g c =
    let t = c.args.task.now in
    let own : OwnFile = slice_index_or c.as_slice.result.now c.args.at (record { slot = Nowhere; file = 0 }) in
    put_due t c.args.lock.now c.args.pass.now c.requires.of (subst IsTask c.task.view_is c.task.invariant) c.args.at c.requires.at own
    (read_at c.as_slice.result.now t.unit.own c.args.at (record { slot = Nowhere; file = 0 }) (c.as_slice.ensures ∙ ap (λ v. v.unit.own) c.task.view_is) c.requires.some_file)

pub publish_piece-requires-clause-sealed : goal.publish_piece-requires-clause-sealed
publish_piece-requires-clause-sealed g c =
    ap (λ m. finite.get m c.in-Ok.piece) c.in-Ok.ensures.sealed ∙ put_there (g.S.Area.Area.pieces c.args.area.now) c.in-Ok.piece true

pub returns-in-Ok-publish_piece-clause-behind : goal.returns-in-Ok-publish_piece-clause-behind
returns-in-Ok-publish_piece-clause-behind g c =
    let t = c.args.task.now in
    let own : OwnFile = slice_index_or c.as_slice.result.now c.args.at (record { slot = Nowhere; file = 0 }) in
    put_installing t c.args.lock.now c.args.pass.now c.requires.of (subst IsTask c.task.view_is c.task.invariant) c.args.at c.requires.at own
    (read_at c.as_slice.result.now t.unit.own c.args.at (record { slot = Nowhere; file = 0 }) (c.as_slice.ensures ∙ ap (λ v. v.unit.own) c.task.view_is) c.requires.some_file)
    c.publish_piece.new.pass c.in-Ok-publish_piece.ensures.ok

pub returns-in-Ok-publish_piece-clause-put : goal.returns-in-Ok-publish_piece-clause-put
returns-in-Ok-publish_piece-clause-put g c =
    let t = c.args.task.now in
    let own : OwnFile = slice_index_or c.as_slice.result.now c.args.at (record { slot = Nowhere; file = 0 }) in
    λ none. put_is t c.args.lock.now c.args.pass.now c.requires.of (subst IsTask c.task.view_is c.task.invariant) c.args.at c.requires.at own
    (read_at c.as_slice.result.now t.unit.own c.args.at (record { slot = Nowhere; file = 0 }) (c.as_slice.ensures ∙ ap (λ v. v.unit.own) c.task.view_is) c.requires.some_file)
    c.publish_piece.new.pass c.in-Ok-publish_piece.ensures.ok

pub returns-in-Ok-publish_piece-clause-has : goal.returns-in-Ok-publish_piece-clause-has
returns-in-Ok-publish_piece-clause-has g c =
    let t = c.args.task.now in
    let before = c.args.pass.now in
    let is = subst IsTask c.task.view_is c.task.invariant in
    let own : OwnFile = slice_index_or c.as_slice.result.now c.args.at (record { slot = Nowhere; file = 0 }) in
    let here = read_at c.as_slice.result.now t.unit.own c.args.at (record { slot = Nowhere; file = 0 }) (c.as_slice.ensures ∙ ap (λ v. v.unit.own) c.task.view_is) c.requires.some_file in
    put_once g.S.Area.Area.contents g.S.Area.Area.faults g.S.Area.Area.pieces t c.args.lock.now before c.publish_piece.new.pass c.args.area.now c.publish_piece.new.area None
    (put_goes t c.args.lock.now before c.requires.of is c.args.at c.requires.at own here c.publish_piece.new.pass c.in-Ok-publish_piece.ensures.ok)
    (area_put g.S.Area.Area.contents g.S.Area.Area.faults g.S.Area.Area.pieces c.args.area.now c.stage_bytes.new.area c.publish_piece.new.area c.in-Ok.piece
    c.in-Ok.ensures.fresh c.in-Ok.ensures.sealed c.in-Ok.ensures.tells c.in-Ok.ensures.cause c.publish_piece.ensures.area c.in-Ok-publish_piece.ensures.taken.0 c.in-Ok-publish_piece.ensures.taken.1)
    (λ remote gate. c.publish_piece.ensures.fits (told_by remote (is_some (g.S.Area.Area.contents c.args.area.now)) gate)
    (subst (λ area. FitsPiece t (told_by remote (is_some (g.S.Area.Area.contents c.args.area.now)) gate) own.file area c.in-Ok.piece before) (sym c.in-Ok.ensures.bytes)
    (fits_piece t c.args.lock.now before c.requires.of is c.args.at own here c.args.bytes.now c.requires.bytes c.requires.at.may (g.S.Area.Area.contents c.args.area.now) c.in-Ok.piece (told_by remote (is_some (g.S.Area.Area.contents c.args.area.now)) gate) refl)))

pub returns-in-Err-publish_piece-clause-behind : goal.returns-in-Err-publish_piece-clause-behind
returns-in-Err-publish_piece-clause-behind g c = (
  ap is_put_end c.publish_end.ensures ∙ publish_put_end c.in-Err-publish_piece.fault,
  (
    c.args.at,
    sees_installing c.args.task.now c.args.lock.now c.args.pass.now c.requires.of (subst IsTask c.task.view_is c.task.invariant) c.publish_piece.new.pass c.in-Err-publish_piece.ensures.err c.args.at c.requires.at,
  ),
)

pub returns-in-Err-publish_piece-clause-has : goal.returns-in-Err-publish_piece-clause-has
returns-in-Err-publish_piece-clause-has g c =
    let t = c.args.task.now in
    let before = c.args.pass.now in
    let is = subst IsTask c.task.view_is c.task.invariant in
    let own : OwnFile = slice_index_or c.as_slice.result.now c.args.at (record { slot = Nowhere; file = 0 }) in
    let here = read_at c.as_slice.result.now t.unit.own c.args.at (record { slot = Nowhere; file = 0 }) (c.as_slice.ensures ∙ ap (λ v. v.unit.own) c.task.view_is) c.requires.some_file in
    subst (λ e. HasPut g.S.Area.Area.contents g.S.Area.Area.faults g.S.Area.Area.pieces t c.args.lock.now before c.publish_piece.new.pass c.args.area.now c.publish_piece.new.area (Some e)) (sym c.publish_end.ensures)
    (put_once g.S.Area.Area.contents g.S.Area.Area.faults g.S.Area.Area.pieces t c.args.lock.now before c.publish_piece.new.pass c.args.area.now c.publish_piece.new.area (Some (Rattle.crew_turns.specs.Endings.publish_end c.in-Err-publish_piece.fault))
    (sees_goes t c.args.lock.now before c.requires.of is c.publish_piece.new.pass c.in-Err-publish_piece.ensures.err (rest_of (unit_outline t) (place.Installing c.requires.at.here)) None c.requires.at.at.course)
    (area_unput g.S.Area.Area.contents g.S.Area.Area.faults g.S.Area.Area.pieces c.args.area.now c.stage_bytes.new.area c.publish_piece.new.area c.in-Ok.piece
    c.in-Ok.ensures.fresh c.in-Ok.ensures.sealed c.in-Ok.ensures.tells c.in-Ok.ensures.cause c.publish_piece.ensures.area c.in-Err-publish_piece.fault c.in-Err-publish_piece.ensures.left.1)
    (λ remote gate. c.publish_piece.ensures.fits (told_by remote (is_some (g.S.Area.Area.contents c.args.area.now)) gate)
    (subst (λ area. FitsPiece t (told_by remote (is_some (g.S.Area.Area.contents c.args.area.now)) gate) own.file area c.in-Ok.piece before) (sym c.in-Ok.ensures.bytes)
    (fits_piece t c.args.lock.now before c.requires.of is c.args.at own here c.args.bytes.now c.requires.bytes c.requires.at.may (g.S.Area.Area.contents c.args.area.now) c.in-Ok.piece (told_by remote (is_some (g.S.Area.Area.contents c.args.area.now)) gate) refl))))
