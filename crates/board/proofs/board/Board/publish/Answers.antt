use Rattle.std.proofs.Common.{◌≡◌, length, ap, arith, subst, sym}
use Rattle.mvn_outside.specs.Shelf.{Publishes as ShelfPublishes}
use Rattle.build_core.specs.OneThread.{name_of}
use Rattle.build_core.specs.declared.event.Event.TheVariants as event
use Rattle.event_core.specs.Enabled.{Enabled}
use Rattle.event_core.specs.declared.entry.Carried.{Carried}
use Rattle.board.specs.Builds.{Build, MayCome, Publishes, with_entry, with_shelf}
use Rattle.board.specs.Keeping.{IsBoard, log_by, room_of}
use Rattle.board.proofs.Shelves.{begun_publish, failed_board, publish_low, published_board, published_build, risen_by, same_board, still_by}
use Rattle.board.proofs.Steps.{at_core}
use Rattle.board.proofs.board.Board.publish.Goals as goal

pub name_at-name-requires : goal.name_at-name-requires
name_at-name-requires g c =
    let low = publish_low c.self.inside.core.0 c.self.inside.core.1 c.args.worker c.args.file (at_core g.S.Shelf.told g.S.Shelf.faults c.self.inside.plan.now c.self.inside.core c.self.inside.opening.value c.self.inside.shelf c.self.inside.answers.kept c.self.inside.marks.items (room_of c.self.inside.answers c.self.inside.states) c.self.invariant (λ o es. Enabled o es (event.Publish c.args.worker c.args.file)) (subst (λ v. MayCome v (event.Publish c.args.worker c.args.file)) (sym c.self.view_is) c.requires.may)) in
    let same = ap (λ o. length o.present) c.self.invariant.outline in
    omega (arith, low, same, c.self.invariant.sound.present)

pub step-requires : goal.step-requires
step-requires g c = at_core g.S.Shelf.told g.S.Shelf.faults c.self.inside.plan.now c.self.inside.core c.self.inside.opening.value c.self.inside.shelf c.self.inside.answers.kept c.self.inside.marks.items (room_of c.self.inside.answers c.self.inside.states) c.self.invariant (λ o es. Enabled o es (event.Publish c.args.worker c.args.file)) (subst (λ v. MayCome v (event.Publish c.args.worker c.args.file)) (sym c.self.view_is) c.requires.may)

pub invariant_of-self : goal.invariant_of-self
invariant_of-self g c = subst (λ t. IsBoard g.S.Shelf.told g.S.Shelf.faults c.self.inside.plan.now t c.self.inside.opening.value c.put.new.shelf c.self.inside.answers.kept c.self.inside.marks.items (room_of c.self.inside.answers c.self.inside.states)) (sym c.step.ensures)
    (published_board g.S.Shelf.told g.S.Shelf.faults c.self.inside.plan.now c.self.inside.core c.self.inside.opening.value c.self.inside.shelf c.self.inside.answers.kept c.self.inside.marks.items (room_of c.self.inside.answers c.self.inside.states) c.self.invariant c.args.worker c.args.file c.put.new.shelf (g.S.Area.Area.contents c.args.area.now) c.args.piece (subst (λ n. ShelfPublishes (g.S.Shelf.told c.self.inside.shelf) (g.S.Shelf.told c.put.new.shelf) (g.S.Area.Area.contents c.args.area.now) c.args.piece n) c.name_at-name.ensures c.in-Ok.ensures.published) c.in-Ok.ensures.cause)

pub invariant_of-self-in-Err-Failed : goal.invariant_of-self-in-Err-Failed
invariant_of-self-in-Err-Failed g c = failed_board g.S.Shelf.told g.S.Shelf.faults c.self.inside.plan.now c.self.inside.core c.self.inside.opening.value c.self.inside.shelf c.self.inside.answers.kept c.self.inside.marks.items (room_of c.self.inside.answers c.self.inside.states) c.self.invariant c.put.new.shelf c.args.worker c.in-Err-Failed.ensures.err.0 (begun_publish c.self.inside.core.0 c.self.inside.core.1 c.args.worker c.args.file (at_core g.S.Shelf.told g.S.Shelf.faults c.self.inside.plan.now c.self.inside.core c.self.inside.opening.value c.self.inside.shelf c.self.inside.answers.kept c.self.inside.marks.items (room_of c.self.inside.answers c.self.inside.states) c.self.invariant (λ o es. Enabled o es (event.Publish c.args.worker c.args.file)) (subst (λ v. MayCome v (event.Publish c.args.worker c.args.file)) (sym c.self.view_is) c.requires.may))) c.set_mark.ensures (risen_by (g.S.Shelf.faults c.self.inside.shelf) (g.S.Shelf.faults c.put.new.shelf) c.in-Err-Failed.field-0 c.in-Err-Failed.field-0-is c.in-Err-Failed.ensures.cause)

pub invariant_of-self-in-Err-Memory : goal.invariant_of-self-in-Err-Memory
invariant_of-self-in-Err-Memory g c = same_board g.S.Shelf.told g.S.Shelf.faults c.self.inside.plan.now c.self.inside.core c.self.inside.opening.value c.self.inside.shelf c.self.inside.answers.kept c.self.inside.marks.items (room_of c.self.inside.answers c.self.inside.states) c.self.invariant c.put.new.shelf c.in-Err-Memory.ensures.err.0 (begun_publish c.self.inside.core.0 c.self.inside.core.1 c.args.worker c.args.file (at_core g.S.Shelf.told g.S.Shelf.faults c.self.inside.plan.now c.self.inside.core c.self.inside.opening.value c.self.inside.shelf c.self.inside.answers.kept c.self.inside.marks.items (room_of c.self.inside.answers c.self.inside.states) c.self.invariant (λ o es. Enabled o es (event.Publish c.args.worker c.args.file)) (subst (λ v. MayCome v (event.Publish c.args.worker c.args.file)) (sym c.self.view_is) c.requires.may))) (still_by (g.S.Shelf.faults c.self.inside.shelf) (g.S.Shelf.faults c.put.new.shelf) c.in-Err-Memory.field-0 c.in-Err-Memory.field-0-is c.in-Err-Memory.ensures.cause)

pub returns-in-Ok-clause-entry : goal.returns-in-Ok-clause-entry
returns-in-Ok-clause-entry g c =
    subst (λ v. (x : Carried) × Publishes (g.S.Shelf.told v.shelf) (g.S.Shelf.told c.put.new.shelf) (g.S.Area.Area.contents c.args.area.now) c.args.piece (name_of v.plan c.args.file) x
    × (◌≡◌ {A = Build g.row.S.Denot} (record { plan = c.self.inside.plan.now; opening = c.self.inside.opening.value; shelf = c.put.new.shelf; log = log_by (g.S.Shelf.told c.self.inside.opening.value) (g.S.Shelf.told c.put.new.shelf) c.self.inside.answers.kept c.step.new.core.1; marks = c.self.inside.marks.items }) (with_shelf (with_entry v (event.Publish c.args.worker c.args.file) x) c.put.new.shelf))) c.self.view_is
    (published_build g.S.Shelf.told g.S.Shelf.faults c.self.inside.plan.now c.self.inside.core c.self.inside.opening.value c.self.inside.shelf c.self.inside.answers.kept c.self.inside.marks.items (room_of c.self.inside.answers c.self.inside.states) c.self.invariant c.put.new.shelf c.args.worker c.args.file (g.S.Area.Area.contents c.args.area.now) c.args.piece (subst (λ n. ShelfPublishes (g.S.Shelf.told c.self.inside.shelf) (g.S.Shelf.told c.put.new.shelf) (g.S.Area.Area.contents c.args.area.now) c.args.piece n) c.name_at-name.ensures c.in-Ok.ensures.published) c.step.ensures)
