use Rattle.std.proofs.Common.{◌≡◌, true, false, refl, subst, sym, ◌∙◌}
use Rattle.build_core.specs.declared.event.Event.TheVariants as event
use Rattle.event_core.specs.Enabled.{Enabled}
use Rattle.event_core.specs.Runs.{is_quiet_event}
use Rattle.board.specs.Builds.{MayCome, is_marked, with_event, with_mark}
use Rattle.board.specs.Logs.{is_shelf_end}
use Rattle.board.specs.Keeping.{room_of}
use Rattle.board.proofs.Steps.{at_core, build, ended_board, ended_build}
use Rattle.board.proofs.board.Board.end.Goals as goal

pub step-requires : goal.step-requires
step-requires g c = at_core g.S.Shelf.told g.S.Shelf.faults c.self.inside.plan.now c.self.inside.core c.self.inside.opening.value c.self.inside.shelf c.self.inside.answers.kept c.self.inside.marks.items (room_of c.self.inside.answers c.self.inside.states) c.self.invariant (λ o es. Enabled o es (event.End c.args.worker c.args.ending))
    (subst (λ v. MayCome v (event.End c.args.worker c.args.ending)) (sym c.self.view_is) c.requires.may)

pub invariant_of-self : goal.invariant_of-self
invariant_of-self g c = ended_board g.S.Shelf.told g.S.Shelf.faults c.self.inside.plan.now c.self.inside.core c.self.inside.opening.value c.self.inside.shelf c.self.inside.answers.kept c.self.inside.marks.items (room_of c.self.inside.answers c.self.inside.states) c.self.invariant c.args.worker c.args.ending c.step.ensures c.set_mark.ensures
    (subst (λ v. is_shelf_end (event.End c.args.worker c.args.ending) ≡ true → is_marked v c.args.worker ≡ true) (sym c.self.view_is) c.requires.marked)
    (subst (λ v. is_marked v c.args.worker ≡ true → is_quiet_event (event.End c.args.worker c.args.ending) ≡ false) (sym c.self.view_is) c.requires.honest)

pub returns : goal.returns
returns g c = record {
  entry = ended_build g.S.Shelf.told g.S.Shelf.faults c.self.inside.plan.now c.self.inside.core c.self.inside.opening.value c.self.inside.shelf c.self.inside.answers.kept c.self.inside.marks.items (room_of c.self.inside.answers c.self.inside.states) c.self.invariant c.args.worker c.args.ending c.step.ensures c.set_mark.ensures
      ∙ subst (λ v. with_mark (with_event (build g.S.Shelf.told g.S.Shelf.faults c.self.inside.plan.now c.self.inside.core c.self.inside.opening.value c.self.inside.shelf c.self.inside.answers.kept c.self.inside.marks.items (room_of c.self.inside.answers c.self.inside.states) c.self.invariant c.self.inside.core c.self.inside.marks.items) (event.End c.args.worker c.args.ending)) c.args.worker false ≡ with_mark (with_event v (event.End c.args.worker c.args.ending)) c.args.worker false) c.self.view_is refl;
}
