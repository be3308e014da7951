use Rattle.std.proofs.Common.{◌≡◌, true, Some, inr, ap, sym, subst, ◌∙◌}
use Rattle.std.specs.Option.{option_map}
use Rattle.mvn_outside.specs.Faults.{device_failed}
use Rattle.mvn_outside.specs.Shelf.{files_now}
use Rattle.build_core.specs.OneThread.{name_of}
use Rattle.build_core.specs.declared.event.Event.TheVariants as event
use Rattle.event_core.specs.Runs.{IsRunOf, standing_of_run}
use Rattle.event_core.specs.Worlds.{is_told, is_told_by}
use Rattle.event_core.specs.declared.entry.Carried.{Carried}
use Rattle.board.specs.Builds.{MayCome, Publishes, standing_at}
use Rattle.crew_turns.specs.Seen.{Steps, Sees, Told, seen_by, view}
use Rattle.crew_turns.specs.Tasks.{IsTask}
use Rattle.crew_turns.proofs.Taken.{itself}
use Rattle.crew_turns.specs.Looked.{LooksBehind}
use Rattle.crew_turns.proofs.Publishing.{carries, looked_err, looked_first, looked_left, looked_ok, publish_fits, publish_left, publish_may, tells_piece}
use Rattle.crew_turns.proofs.Readings.{start_at}
use Rattle.crew_turns.proofs.Results.{adds_by, fits_by, same_opened, seen_is, sees_by, steps_by}
use Rattle.crew_turns.proofs.events.publish_piece.Goals as goal

pub publish-published-requires : goal.publish-published-requires
publish-published-requires g c =
    let t = c.args.task.now in
    let b = c.taken-value.result in
    let is = c.taken-value.ensures.out t.plan t.worker c.requires.of in
    record {
      may = subst (λ k. MayCome b (event.Publish k c.args.file)) (sym (ap (λ v. v.worker) c.task.view_is)) (publish_may t.plan c.args.lock.now t.worker c.args.pass.now c.requires.of b is c.args.file c.requires.due);
      sealed = c.requires.sealed;
    }

pub give-requires-clause-taken : goal.give-requires-clause-taken
give-requires-clause-taken g c =
    let t = c.args.task.now in
    let b = c.taken-value.result in
    let now = c.publish-published.new.self in
    let is = c.taken-value.ensures.out t.plan t.worker c.requires.of in
    let what_is = λ (what : Carried). Publishes (g.S.Shelf.told b.shelf) (g.S.Shelf.told now.shelf) (g.S.Area.Area.contents c.args.area.now) c.args.piece (name_of b.plan c.args.file) what in
    let left = publish_left b now c.task.inside.worker t.worker c.args.file (ap (λ v. v.worker) c.task.view_is) (device_failed c.publish-published.result) what_is c.publish-published.result c.publish-published.ensures.entry c.publish-published.ensures.mark in
    adds_by t.plan c.args.lock.now t.worker c.args.pass.now c.requires.of b is (event.Publish t.worker c.args.file) what_is c.publish-published.result now left.log c.taken-value.new.pass c.taken-value.new.pass c.taken-value.ensures.pass (inr (itself t.worker))

pub give-requires-clause-fixed : goal.give-requires-clause-fixed
give-requires-clause-fixed g c =
    let t = c.args.task.now in
    let b = c.taken-value.result in
    let now = c.publish-published.new.self in
    let what_is = λ (what : Carried). Publishes (g.S.Shelf.told b.shelf) (g.S.Shelf.told now.shelf) (g.S.Area.Area.contents c.args.area.now) c.args.piece (name_of b.plan c.args.file) what in
    let left = publish_left b now c.task.inside.worker t.worker c.args.file (ap (λ v. v.worker) c.task.view_is) (device_failed c.publish-published.result) what_is c.publish-published.result c.publish-published.ensures.entry c.publish-published.ensures.mark in
    ap Some (same_opened g.S.Shelf.told g.S.Shelf.faults b now left.plan left.opening) ∙ c.taken-value.ensures.fixed ∙ sym (ap (λ (p : Told). (view p).fixed) c.taken-value.ensures.pass)

pub give-requires-clause-workers : goal.give-requires-clause-workers
give-requires-clause-workers g c =
    let t = c.args.task.now in
    let b = c.taken-value.result in
    let now = c.publish-published.new.self in
    let what_is = λ (what : Carried). Publishes (g.S.Shelf.told b.shelf) (g.S.Shelf.told now.shelf) (g.S.Area.Area.contents c.args.area.now) c.args.piece (name_of b.plan c.args.file) what in
    let left = publish_left b now c.task.inside.worker t.worker c.args.file (ap (λ v. v.worker) c.task.view_is) (device_failed c.publish-published.result) what_is c.publish-published.result c.publish-published.ensures.entry c.publish-published.ensures.mark in
    ap (λ p. p.workers) left.plan ∙ c.taken-value.ensures.workers ∙ sym (ap (λ (p : Told). (view p).workers) c.taken-value.ensures.pass)

pub returns-clause-ok : goal.returns-clause-ok
returns-clause-ok g c =
    let t = c.args.task.now in
    let b = c.taken-value.result in
    let now = c.publish-published.new.self in
    let is = c.taken-value.ensures.out t.plan t.worker c.requires.of in
    let what_is = λ (what : Carried). Publishes (g.S.Shelf.told b.shelf) (g.S.Shelf.told now.shelf) (g.S.Area.Area.contents c.args.area.now) c.args.piece (name_of b.plan c.args.file) what in
    let left = publish_left b now c.task.inside.worker t.worker c.args.file (ap (λ v. v.worker) c.task.view_is) (device_failed c.publish-published.result) what_is c.publish-published.result c.publish-published.ensures.entry c.publish-published.ensures.mark in
    let looked = subst (λ fs. LooksBehind (standing_at now).there fs c.args.from c.publish-published.result c.look_behind-looked.result) (c.as_slice.ensures ∙ ap (λ v. v.unit.fetch) c.task.view_is) c.look_behind-looked.ensures in
    looked_ok (standing_at now).there t.unit.fetch c.args.from (Steps t.plan c.args.lock.now t.worker (event.Publish t.worker c.args.file) c.args.pass.now c.give.new.pass) c.publish-published.result c.look_behind-looked.result looked
    (steps_by t.plan c.args.lock.now t.worker c.args.pass.now c.requires.of b is (event.Publish t.worker c.args.file) what_is c.publish-published.result now left.log c.taken-value.new.pass c.give.new.pass c.taken-value.ensures.pass c.give.ensures (publish_may t.plan c.args.lock.now t.worker c.args.pass.now c.requires.of b is c.args.file c.requires.due))

pub returns-clause-err : goal.returns-clause-err
returns-clause-err g c =
    let t = c.args.task.now in
    let b = c.taken-value.result in
    let now = c.publish-published.new.self in
    let is = c.taken-value.ensures.out t.plan t.worker c.requires.of in
    let what_is = λ (what : Carried). Publishes (g.S.Shelf.told b.shelf) (g.S.Shelf.told now.shelf) (g.S.Area.Area.contents c.args.area.now) c.args.piece (name_of b.plan c.args.file) what in
    let left = publish_left b now c.task.inside.worker t.worker c.args.file (ap (λ v. v.worker) c.task.view_is) (device_failed c.publish-published.result) what_is c.publish-published.result c.publish-published.ensures.entry c.publish-published.ensures.mark in
    let looked = subst (λ fs. LooksBehind (standing_at now).there fs c.args.from c.publish-published.result c.look_behind-looked.result) (c.as_slice.ensures ∙ ap (λ v. v.unit.fetch) c.task.view_is) c.look_behind-looked.ensures in
    looked_err (standing_at now).there t.unit.fetch c.args.from (Sees t.plan c.args.lock.now t.worker c.args.pass.now c.give.new.pass) c.publish-published.result c.look_behind-looked.result looked
    (sees_by t.plan c.args.lock.now t.worker c.args.pass.now c.requires.of b is (event.Publish t.worker c.args.file) what_is c.publish-published.result now left.log c.taken-value.new.pass c.give.new.pass c.taken-value.ensures.pass c.give.ensures (subst (λ p. IsRunOf p now.log) (left.plan ∙ is.plan_is) c.keeps.ensures.run))

pub returns-clause-absent : goal.returns-clause-absent
returns-clause-absent g c =
    let t = c.args.task.now in
    let b = c.taken-value.result in
    let now = c.publish-published.new.self in
    let is = c.taken-value.ensures.out t.plan t.worker c.requires.of in
    let what_is = λ (what : Carried). Publishes (g.S.Shelf.told b.shelf) (g.S.Shelf.told now.shelf) (g.S.Area.Area.contents c.args.area.now) c.args.piece (name_of b.plan c.args.file) what in
    let left = publish_left b now c.task.inside.worker t.worker c.args.file (ap (λ v. v.worker) c.task.view_is) (device_failed c.publish-published.result) what_is c.publish-published.result c.publish-published.ensures.entry c.publish-published.ensures.mark in
    let looked = subst (λ fs. LooksBehind (standing_at now).there fs c.args.from c.publish-published.result c.look_behind-looked.result) (c.as_slice.ensures ∙ ap (λ v. v.unit.fetch) c.task.view_is) c.look_behind-looked.ensures in
    looked_first (standing_of_run t.plan (seen_by c.give.new.pass)).there t.unit.fetch c.args.from c.publish-published.result c.look_behind-looked.result
    (subst (λ log. LooksBehind (standing_of_run t.plan log).there t.unit.fetch c.args.from c.publish-published.result c.look_behind-looked.result) (seen_is c.args.pass.now b.log now.log c.taken-value.new.pass c.give.new.pass c.taken-value.ensures.pass c.give.ensures)
    (subst (λ p. LooksBehind (standing_of_run p now.log).there t.unit.fetch c.args.from c.publish-published.result c.look_behind-looked.result) (left.plan ∙ is.plan_is) looked))

pub returns-clause-fits : goal.returns-clause-fits
returns-clause-fits g c =
    let t = c.args.task.now in
    let b = c.taken-value.result in
    let now = c.publish-published.new.self in
    let is = c.taken-value.ensures.out t.plan t.worker c.requires.of in
    let what_is = λ (what : Carried). Publishes (g.S.Shelf.told b.shelf) (g.S.Shelf.told now.shelf) (g.S.Area.Area.contents c.args.area.now) c.args.piece (name_of b.plan c.args.file) what in
    let left = publish_left b now c.task.inside.worker t.worker c.args.file (ap (λ v. v.worker) c.task.view_is) (device_failed c.publish-published.result) what_is c.publish-published.result c.publish-published.ensures.entry c.publish-published.ensures.mark in
    λ told fit.
    fits_by t.plan c.args.lock.now t.worker c.args.pass.now c.requires.of b is (event.Publish t.worker c.args.file) what_is c.publish-published.result now left.log c.taken-value.new.pass c.give.new.pass c.taken-value.ensures.pass c.give.ensures (subst (λ p. IsRunOf p now.log) (left.plan ∙ is.plan_is) c.keeps.ensures.run) told
    (λ what published.
    publish_fits t.plan c.args.lock.now t.worker c.args.pass.now c.requires.of b is c.args.file c.requires.due t.number t.unit c.requires.whose (subst IsTask c.task.view_is c.task.invariant) told what
    (fit.bytes what (tells_piece (g.S.Shelf.told b.shelf) (g.S.Shelf.told now.shelf) (g.S.Area.Area.contents c.args.area.now) c.args.piece (name_of b.plan c.args.file) what published))
    (subst (λ start. is_told (is_told_by start (λ v. told) (event.Publish t.worker c.args.file)) (event.Publish t.worker c.args.file) what ≡ true) (sym (start_at g.S.Shelf.told g.S.Shelf.faults c.args.pass.now b c.taken-value.ensures.fixed ∙ ap (λ s. option_map files_now (g.S.Shelf.told s)) (sym left.opening)))
    (carries now.plan now.log (g.S.Shelf.told now.opening) (g.S.Shelf.told b.shelf) (g.S.Shelf.told now.shelf) (g.S.Area.Area.contents c.args.area.now) c.args.piece (name_of b.plan c.args.file) what told t.worker c.args.file c.keeps.ensures.told published)))

pub returns-clause-taken : goal.returns-clause-taken
returns-clause-taken g c =
    let t = c.args.task.now in
    let now = c.publish-published.new.self in
    let looked = subst (λ fs. LooksBehind (standing_at now).there fs c.args.from c.publish-published.result c.look_behind-looked.result) (c.as_slice.ensures ∙ ap (λ v. v.unit.fetch) c.task.view_is) c.look_behind-looked.ensures in
    looked_ok (standing_at now).there t.unit.fetch c.args.from _ c.publish-published.result c.look_behind-looked.result looked c.publish-published.ensures.taken

pub returns-clause-left : goal.returns-clause-left
returns-clause-left g c =
    let t = c.args.task.now in
    let now = c.publish-published.new.self in
    let looked = subst (λ fs. LooksBehind (standing_at now).there fs c.args.from c.publish-published.result c.look_behind-looked.result) (c.as_slice.ensures ∙ ap (λ v. v.unit.fetch) c.task.view_is) c.look_behind-looked.ensures in
    looked_left (standing_at now).there t.unit.fetch c.args.from _ _ _ c.publish-published.result c.look_behind-looked.result looked c.publish-published.ensures.err
