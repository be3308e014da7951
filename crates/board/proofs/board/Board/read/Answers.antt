use Rattle.std.proofs.Common.{◌≡◌, true, IfSome, is_some, length, refl, ap, arith, subst, sym}
use Rattle.mvn_shared.specs.Files.{file_at}
use Rattle.mvn_outside.specs.Shelf.{files_now}
use Rattle.build_core.specs.declared.event.Event.TheVariants as event
use Rattle.event_core.specs.Enabled.{Enabled}
use Rattle.mvn_outside.specs.declared.fault.ReadFault.TheVariants as fault
use Rattle.board.specs.Builds.{Build, MayCome, with_event, with_shelf}
use Rattle.board.specs.Keeping.{log_by, room_of}
use Rattle.board.proofs.Shelves.{begun_read, failed_read, read_board, read_build, read_low, same_board, still_read, still_ok}
use Rattle.board.proofs.Steps.{at_core}
use Rattle.board.proofs.Telling.{due_told}
use Rattle.board.proofs.board.Board.read.Goals as goal

pub name_at-name-requires : goal.name_at-name-requires
name_at-name-requires g c =
    let low = read_low c.self.inside.core.0 c.self.inside.core.1 c.args.worker c.args.file (at_core g.S.Shelf.told g.S.Shelf.faults c.self.inside.plan.now c.self.inside.core c.self.inside.opening.value c.self.inside.shelf c.self.inside.answers.kept c.self.inside.marks.items (room_of c.self.inside.answers c.self.inside.states) c.self.invariant (λ o es. Enabled o es (event.Read c.args.worker c.args.file)) (subst (λ v. MayCome v (event.Read c.args.worker c.args.file)) (sym c.self.view_is) c.requires.may)) in
    let same = ap (λ o. length o.present) c.self.invariant.outline in
    omega (arith, low, same, c.self.invariant.sound.present)

pub read_file-requires : goal.read_file-requires
read_file-requires g c = record {
  there = subst (λ n. IfSome (g.S.Shelf.told c.self.inside.shelf) (λ told. is_some (file_at (files_now told) n) ≡ true)) (sym c.name_at-name.ensures)
      (due_told g.S.Shelf.told g.S.Shelf.faults c.self.inside.plan.now c.self.inside.core c.self.inside.opening.value c.self.inside.shelf c.self.inside.answers.kept c.self.inside.marks.items (room_of c.self.inside.answers c.self.inside.states) c.self.invariant c.runs_within_bound.ensures.run c.args.worker c.args.file (at_core g.S.Shelf.told g.S.Shelf.faults c.self.inside.plan.now c.self.inside.core c.self.inside.opening.value c.self.inside.shelf c.self.inside.answers.kept c.self.inside.marks.items (room_of c.self.inside.answers c.self.inside.states) c.self.invariant (λ o es. Enabled o es (event.Read c.args.worker c.args.file)) (subst (λ v. MayCome v (event.Read c.args.worker c.args.file)) (sym c.self.view_is) c.requires.may)));
}

pub step-requires : goal.step-requires
step-requires g c = (at_core g.S.Shelf.told g.S.Shelf.faults c.self.inside.plan.now c.self.inside.core c.self.inside.opening.value c.self.inside.shelf c.self.inside.answers.kept c.self.inside.marks.items (room_of c.self.inside.answers c.self.inside.states) c.self.invariant (λ o es. Enabled o es (event.Read c.args.worker c.args.file)) (subst (λ v. MayCome v (event.Read c.args.worker c.args.file)) (sym c.self.view_is) c.requires.may))

pub invariant_of-self : goal.invariant_of-self
invariant_of-self g c = read_board g.S.Shelf.told g.S.Shelf.faults c.self.inside.plan.now c.self.inside.core c.self.inside.opening.value c.self.inside.shelf c.self.inside.answers.kept c.self.inside.marks.items (room_of c.self.inside.answers c.self.inside.states) c.self.invariant c.read_file.new.shelf c.args.worker c.args.file c.in-Ok.ensures.told (still_ok (g.S.Shelf.told c.self.inside.shelf) (g.S.Shelf.faults c.self.inside.shelf) (g.S.Shelf.faults c.read_file.new.shelf) c.in-Ok.bytes c.in-Ok.ensures.cause) (begun_read c.self.inside.core.0 c.self.inside.core.1 c.args.worker c.args.file (at_core g.S.Shelf.told g.S.Shelf.faults c.self.inside.plan.now c.self.inside.core c.self.inside.opening.value c.self.inside.shelf c.self.inside.answers.kept c.self.inside.marks.items (room_of c.self.inside.answers c.self.inside.states) c.self.invariant (λ o es. Enabled o es (event.Read c.args.worker c.args.file)) (subst (λ v. MayCome v (event.Read c.args.worker c.args.file)) (sym c.self.view_is) c.requires.may))) c.step.ensures

pub invariant_of-self-in-Err-Failed : goal.invariant_of-self-in-Err-Failed
invariant_of-self-in-Err-Failed g c = failed_read g.S.Shelf.told g.S.Shelf.faults c.self.inside.plan.now c.self.inside.core c.self.inside.opening.value c.self.inside.shelf c.self.inside.answers.kept c.self.inside.marks.items (room_of c.self.inside.answers c.self.inside.states) c.self.invariant c.read_file.new.shelf c.args.worker c.in-Err-Failed.field-0 c.in-Err-Failed.ensures.told (begun_read c.self.inside.core.0 c.self.inside.core.1 c.args.worker c.args.file (at_core g.S.Shelf.told g.S.Shelf.faults c.self.inside.plan.now c.self.inside.core c.self.inside.opening.value c.self.inside.shelf c.self.inside.answers.kept c.self.inside.marks.items (room_of c.self.inside.answers c.self.inside.states) c.self.invariant (λ o es. Enabled o es (event.Read c.args.worker c.args.file)) (subst (λ v. MayCome v (event.Read c.args.worker c.args.file)) (sym c.self.view_is) c.requires.may))) c.set_mark.ensures c.in-Err-Failed.field-0-is c.in-Err-Failed.ensures.cause

pub invariant_of-self-in-Err-TooLarge : goal.invariant_of-self-in-Err-TooLarge
invariant_of-self-in-Err-TooLarge g c = same_board g.S.Shelf.told g.S.Shelf.faults c.self.inside.plan.now c.self.inside.core c.self.inside.opening.value c.self.inside.shelf c.self.inside.answers.kept c.self.inside.marks.items (room_of c.self.inside.answers c.self.inside.states) c.self.invariant c.read_file.new.shelf c.in-Err-TooLarge.ensures.told (begun_read c.self.inside.core.0 c.self.inside.core.1 c.args.worker c.args.file (at_core g.S.Shelf.told g.S.Shelf.faults c.self.inside.plan.now c.self.inside.core c.self.inside.opening.value c.self.inside.shelf c.self.inside.answers.kept c.self.inside.marks.items (room_of c.self.inside.answers c.self.inside.states) c.self.invariant (λ o es. Enabled o es (event.Read c.args.worker c.args.file)) (subst (λ v. MayCome v (event.Read c.args.worker c.args.file)) (sym c.self.view_is) c.requires.may))) (still_read (g.S.Shelf.told c.self.inside.shelf) (g.S.Shelf.faults c.self.inside.shelf) (g.S.Shelf.faults c.read_file.new.shelf) c.in-Err-TooLarge.field-0 fault.TooLarge refl c.in-Err-TooLarge.field-0-is c.in-Err-TooLarge.ensures.cause)

pub invariant_of-self-in-Err-Memory : goal.invariant_of-self-in-Err-Memory
invariant_of-self-in-Err-Memory g c = same_board g.S.Shelf.told g.S.Shelf.faults c.self.inside.plan.now c.self.inside.core c.self.inside.opening.value c.self.inside.shelf c.self.inside.answers.kept c.self.inside.marks.items (room_of c.self.inside.answers c.self.inside.states) c.self.invariant c.read_file.new.shelf c.in-Err-Memory.ensures.told (begun_read c.self.inside.core.0 c.self.inside.core.1 c.args.worker c.args.file (at_core g.S.Shelf.told g.S.Shelf.faults c.self.inside.plan.now c.self.inside.core c.self.inside.opening.value c.self.inside.shelf c.self.inside.answers.kept c.self.inside.marks.items (room_of c.self.inside.answers c.self.inside.states) c.self.invariant (λ o es. Enabled o es (event.Read c.args.worker c.args.file)) (subst (λ v. MayCome v (event.Read c.args.worker c.args.file)) (sym c.self.view_is) c.requires.may))) (still_read (g.S.Shelf.told c.self.inside.shelf) (g.S.Shelf.faults c.self.inside.shelf) (g.S.Shelf.faults c.read_file.new.shelf) c.in-Err-Memory.field-0 fault.Memory refl c.in-Err-Memory.field-0-is c.in-Err-Memory.ensures.cause)

pub returns-in-Ok-clause-entry : goal.returns-in-Ok-clause-entry
returns-in-Ok-clause-entry g c =
    subst (λ v. ◌≡◌ {A = Build g.row.S.Denot} (record { plan = c.self.inside.plan.now; opening = c.self.inside.opening.value; shelf = c.read_file.new.shelf; log = log_by (g.S.Shelf.told c.self.inside.opening.value) (g.S.Shelf.told c.read_file.new.shelf) c.self.inside.answers.kept c.step.new.core.1; marks = c.self.inside.marks.items }) (with_shelf (with_event v (event.Read c.args.worker c.args.file)) c.read_file.new.shelf)) c.self.view_is
    (read_build g.S.Shelf.told g.S.Shelf.faults c.self.inside.plan.now c.self.inside.core c.self.inside.opening.value c.self.inside.shelf c.self.inside.answers.kept c.self.inside.marks.items (room_of c.self.inside.answers c.self.inside.states) c.self.invariant c.read_file.new.shelf c.args.worker c.args.file c.in-Ok.ensures.told c.step.ensures)
