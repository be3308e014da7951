use Rattle.std.proofs.Common.{ap, sym, ◌∙◌}
use Rattle.event_core.specs.Runs.{events_of}
use Rattle.board.specs.Keeping.{room_of}
use Rattle.board.proofs.Steps.{events_same}
use Rattle.board.proofs.board.Board.give_up.Goals as goal

pub returns : goal.returns
returns g c = record { given = c.self.invariant.untouched (sym (events_same g.S.Shelf.told g.S.Shelf.faults c.self.inside.plan.now c.self.inside.core c.self.inside.opening.value c.self.inside.shelf c.self.inside.answers.kept c.self.inside.marks.items (room_of c.self.inside.answers c.self.inside.states) c.self.invariant) ∙ ap events_of (ap (λ v. v.log) c.self.view_is ∙ c.requires.unbegun)) ∙ ap (λ v. v.opening) c.self.view_is }
