use Rattle.std.proofs.Common.{◌≡◌, subst}
use Rattle.scripts.specs.Scripts.{is_there}
use Rattle.event_core.specs.Standing.{standing_of}
use Rattle.board.specs.Builds.{standing_at}
use Rattle.board.specs.Keeping.{room_of}
use Rattle.board.proofs.Steps.{at_build}
use Rattle.board.proofs.board.Board.has.Goals as goal

pub returns : goal.returns
returns g c = subst (λ v. c.has.result ≡ is_there (standing_at v).there c.args.file) c.self.view_is
    (at_build g.S.Shelf.told g.S.Shelf.faults c.self.inside.plan.now c.self.inside.core c.self.inside.opening.value c.self.inside.shelf c.self.inside.answers.kept c.self.inside.marks.items (room_of c.self.inside.answers c.self.inside.states) c.self.invariant (λ o es. c.has.result ≡ is_there (standing_of o es).there c.args.file) c.has.ensures)
