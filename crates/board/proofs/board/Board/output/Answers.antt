use Rattle.std.proofs.Common.{◌≡◌, IfOk, ap, subst, sym, ◌∙◌}
use Rattle.std.specs.Option.{option_map}
use Rattle.build_core.specs.Slots.{slot_bytes}
use Rattle.board.specs.Builds.{output_at}
use Rattle.board.specs.Keeping.{log_by, room_of}
use Rattle.board.proofs.AnswerMore.{count_is, output_none, output_told}
use Rattle.board.proofs.board.Board.output.Goals as goal

pub output-requires : goal.output-requires
output-requires g c = record { goals = count_is c.self.inside.plan.now.modules c.self.inside.answers.goals c.args.number c.in-Some.module.now c.self.invariant.goals (sym c.module_in.ensures ∙ ap (option_map (λ m. m.now)) c.in-Some.is) }

pub returns-in-Some : goal.returns-in-Some
returns-in-Some g c = subst (λ x. IfOk c.copy_of.result (λ copy. copy ≡ x))
    (c.output.ensures ∙ output_told g.S.Shelf.told g.S.Shelf.faults c.self.inside.plan.now c.self.inside.core c.self.inside.opening.value c.self.inside.shelf c.self.inside.answers.kept c.self.inside.marks.items (room_of c.self.inside.answers c.self.inside.states) c.self.invariant c.args.number c.in-Some.module.now c.args.slot (sym c.module_in.ensures ∙ ap (option_map (λ m. m.now)) c.in-Some.is) ∙ ap (λ v. output_at v c.args.number c.args.slot) c.self.view_is)
    c.copy_of.ensures

pub returns-in-None : goal.returns-in-None
returns-in-None g c =
    sym (ap (λ own. slot_bytes own c.args.slot) (output_none c.self.inside.plan.now (log_by (g.S.Shelf.told c.self.inside.opening.value) (g.S.Shelf.told c.self.inside.shelf) c.self.inside.answers.kept c.self.inside.core.1) c.args.number (sym c.module_in.ensures ∙ ap (option_map (λ m. m.now)) c.in-None.is)))
    ∙ ap (λ v. output_at v c.args.number c.args.slot) c.self.view_is
