use Rattle.std.proofs.Common.{◌≡◌, Some, IfSome, slice_get, refl, ap, subst, sym, ◌∙◌}
use Rattle.std.specs.Option.{option_map_or}
use Rattle.build_core.specs.declared.event.Event.TheVariants as event
use Rattle.build_core.specs.declared.plan.PlanModule.{PlanModule}
use Rattle.event_core.specs.Enabled.{Enabled}
use Rattle.event_core.specs.Runs.{answers_in}
use Rattle.event_core.specs.Standing.{course_of, module_of, standing_of}
use Rattle.event_core.specs.declared.entry.Carried.TheVariants as carried
use Rattle.board.specs.Walks.{goals_of}
use Rattle.board.specs.Builds.{MayCome, answer_kept, module_at, with_entry}
use Rattle.board.specs.Keeping.{log_by, room_of}
use Rattle.board.specs.declared.next.AnswerKept.TheVariants.{Held}
use Rattle.board.proofs.AnswerMore.{answer_module, answer_room, answered_board, answered_build}
use Rattle.board.proofs.Steps.{at_build, at_core}
use Rattle.board.proofs.board.Board.answer.Goals as goal

pub module_by-number-requires : goal.module_by-number-requires
module_by-number-requires g c = answer_module c.self.inside.core.0 c.self.inside.core.1 c.args.worker c.args.goal (at_core g.S.Shelf.told g.S.Shelf.faults c.self.inside.plan.now c.self.inside.core c.self.inside.opening.value c.self.inside.shelf c.self.inside.answers.kept c.self.inside.marks.items (room_of c.self.inside.answers c.self.inside.states) c.self.invariant (λ o es. Enabled o es (event.Answer c.args.worker c.args.goal)) (subst (λ v. MayCome v (event.Answer c.args.worker c.args.goal)) (sym c.self.view_is) c.requires.may))

pub step-requires : goal.step-requires
step-requires g c = (at_core g.S.Shelf.told g.S.Shelf.faults c.self.inside.plan.now c.self.inside.core c.self.inside.opening.value c.self.inside.shelf c.self.inside.answers.kept c.self.inside.marks.items (room_of c.self.inside.answers c.self.inside.states) c.self.invariant (λ o es. Enabled o es (event.Answer c.args.worker c.args.goal)) (subst (λ v. MayCome v (event.Answer c.args.worker c.args.goal)) (sym c.self.view_is) c.requires.may))

pub note-requires : goal.note-requires
note-requires g c = answer_room g.S.Shelf.told g.S.Shelf.faults c.self.inside.plan.now c.self.inside.core c.self.inside.opening.value c.self.inside.shelf c.self.inside.answers.kept c.self.inside.marks.items (room_of c.self.inside.answers c.self.inside.states) c.self.invariant (event.Answer c.args.worker c.args.goal) c.step.ensures c.runs_within_bound.ensures.bound

pub kept_in-requires : goal.kept_in-requires
kept_in-requires g c = c.note.ensures.goals ∙ c.self.invariant.goals

pub invariant_of-self : goal.invariant_of-self
invariant_of-self g c = answered_board g.S.Shelf.told g.S.Shelf.faults c.self.inside.plan.now c.self.inside.core c.self.inside.opening.value c.self.inside.shelf c.self.inside.answers.kept c.self.inside.marks.items (room_of c.self.inside.answers c.self.inside.states) c.self.invariant c.args.worker c.args.goal c.module_by-number.result c.args.answer (at_build g.S.Shelf.told g.S.Shelf.faults c.self.inside.plan.now c.self.inside.core c.self.inside.opening.value c.self.inside.shelf c.self.inside.answers.kept c.self.inside.marks.items (room_of c.self.inside.answers c.self.inside.states) c.self.invariant (λ o es. module_of (course_of (standing_of o es) c.args.worker) ≡ Some c.module_by-number.result) c.module_by-number.ensures) (room_of c.note.new.self c.self.inside.states) c.step.ensures c.note.ensures.kept c.note.ensures.room c.note.ensures.goals refl

pub returns-clause-entry : goal.returns-clause-entry
returns-clause-entry g c = answered_build g.S.Shelf.told g.S.Shelf.faults c.self.inside.plan.now c.self.inside.core c.self.inside.opening.value c.self.inside.shelf c.self.inside.answers.kept c.self.inside.marks.items (room_of c.self.inside.answers c.self.inside.states) c.self.invariant c.args.worker c.args.goal c.module_by-number.result c.args.answer (at_build g.S.Shelf.told g.S.Shelf.faults c.self.inside.plan.now c.self.inside.core c.self.inside.opening.value c.self.inside.shelf c.self.inside.answers.kept c.self.inside.marks.items (room_of c.self.inside.answers c.self.inside.states) c.self.invariant (λ o es. module_of (course_of (standing_of o es) c.args.worker) ≡ Some c.module_by-number.result) c.module_by-number.ensures) c.step.ensures c.note.ensures.kept ∙ ap (λ v. with_entry v (event.Answer c.args.worker c.args.goal) (carried.Answered c.args.answer)) c.self.view_is

pub returns-clause-kept : goal.returns-clause-kept
returns-clause-kept g c =
    let board = answered_board g.S.Shelf.told g.S.Shelf.faults c.self.inside.plan.now c.self.inside.core c.self.inside.opening.value c.self.inside.shelf c.self.inside.answers.kept c.self.inside.marks.items (room_of c.self.inside.answers c.self.inside.states) c.self.invariant c.args.worker c.args.goal c.module_by-number.result c.args.answer (at_build g.S.Shelf.told g.S.Shelf.faults c.self.inside.plan.now c.self.inside.core c.self.inside.opening.value c.self.inside.shelf c.self.inside.answers.kept c.self.inside.marks.items (room_of c.self.inside.answers c.self.inside.states) c.self.invariant (λ o es. module_of (course_of (standing_of o es) c.args.worker) ≡ Some c.module_by-number.result) c.module_by-number.ensures) (room_of c.note.new.self c.self.inside.states) c.step.ensures c.note.ensures.kept c.note.ensures.room c.note.ensures.goals refl in
    let at = ap (λ v. module_at v c.args.worker) (sym c.self.view_is) ∙ (at_build g.S.Shelf.told g.S.Shelf.faults c.self.inside.plan.now c.self.inside.core c.self.inside.opening.value c.self.inside.shelf c.self.inside.answers.kept c.self.inside.marks.items (room_of c.self.inside.answers c.self.inside.states) c.self.invariant (λ o es. module_of (course_of (standing_of o es) c.args.worker) ≡ Some c.module_by-number.result) c.module_by-number.ensures) in
    subst (λ found. IfSome found (λ number. c.kept_in.result ≡ option_map_or (λ (m : PlanModule). answer_kept c.args.goal (goals_of (answers_in c.self.inside.plan.now (log_by (g.S.Shelf.told c.self.inside.opening.value) (g.S.Shelf.told c.self.inside.shelf) c.note.new.self.kept c.step.new.core.1)) number m)) (slice_get c.self.inside.plan.now.modules number) Held)) (sym at)
    (c.kept_in.ensures ∙ ap (λ kept. option_map_or (λ (m : PlanModule). answer_kept c.args.goal (goals_of kept c.module_by-number.result m)) (slice_get c.self.inside.plan.now.modules c.module_by-number.result) Held) board.kept)
