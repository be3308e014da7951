use Rattle.std.proofs.Common.{◌≡◌, Some, OnOk, IfErr, subst}
use Rattle.event_core.specs.Causes.{cause_now}
use Rattle.scripts.specs.Outlines.{outline_of}
use Rattle.board.specs.Builds.{MayCome, standing_at, with_event}
use Rattle.board.specs.Keeping.{room_of}
use Rattle.board.proofs.Steps.{build, tried_board, tried_err, tried_ok}
use Rattle.board.proofs.board.Board.try_event.Goals as goal

pub invariant_of-self : goal.invariant_of-self
invariant_of-self g c = tried_board g.S.Shelf.told g.S.Shelf.faults c.self.inside.plan.now c.self.inside.core c.self.inside.opening.value c.self.inside.shelf c.self.inside.answers.kept c.self.inside.marks.items (room_of c.self.inside.answers c.self.inside.states) c.self.invariant c.args.event c.requires.plain c.requires.within c.step.new.self c.step.result c.step.ensures.ok c.step.ensures.err

pub returns-clause-ok : goal.returns-clause-ok
returns-clause-ok g c =
    subst (λ v. OnOk c.step.result (MayCome v c.args.event × (build g.S.Shelf.told g.S.Shelf.faults c.self.inside.plan.now c.self.inside.core c.self.inside.opening.value c.self.inside.shelf c.self.inside.answers.kept c.self.inside.marks.items (room_of c.self.inside.answers c.self.inside.states) c.self.invariant c.step.new.self c.self.inside.marks.items ≡ with_event v c.args.event))) c.self.view_is
    (tried_ok g.S.Shelf.told g.S.Shelf.faults c.self.inside.plan.now c.self.inside.core c.self.inside.opening.value c.self.inside.shelf c.self.inside.answers.kept c.self.inside.marks.items (room_of c.self.inside.answers c.self.inside.states) c.self.invariant c.args.event c.requires.plain c.step.new.self c.step.result c.step.ensures.ok)

pub returns-clause-err : goal.returns-clause-err
returns-clause-err g c =
    subst (λ v. IfErr c.step.result (λ why. (cause_now (outline_of v.plan) (standing_at v) c.args.event ≡ Some why) × (build g.S.Shelf.told g.S.Shelf.faults c.self.inside.plan.now c.self.inside.core c.self.inside.opening.value c.self.inside.shelf c.self.inside.answers.kept c.self.inside.marks.items (room_of c.self.inside.answers c.self.inside.states) c.self.invariant c.step.new.self c.self.inside.marks.items ≡ v))) c.self.view_is
    (tried_err g.S.Shelf.told g.S.Shelf.faults c.self.inside.plan.now c.self.inside.core c.self.inside.opening.value c.self.inside.shelf c.self.inside.answers.kept c.self.inside.marks.items (room_of c.self.inside.answers c.self.inside.states) c.self.invariant c.args.event c.step.new.self c.step.result c.step.ensures.err)
