use Rattle.std.proofs.Common.{◌≡◌, subst, sym, ◌∙◌}
use Rattle.event_core.specs.Going.{NeverWaits}
use Rattle.scripts.specs.Outlines.{outline_of}
use Rattle.event_core.specs.Runs.{events_of}
use Rattle.event_core.specs.Sound.{IsSound}
use Rattle.event_core.specs.Standing.{standing_of}
use Rattle.board.specs.Builds.{next_in, standing_at}
use Rattle.board.specs.Keeping.{room_of}
use Rattle.board.proofs.Steps.{at_build, skip_enabled, start_enabled, wait_goes}
use Rattle.board.proofs.board.Board.start.Goals as goal

pub go-requires-clause-may : goal.go-requires-clause-may
go-requires-clause-may g c = skip_enabled (outline_of c.args.self.now.plan) (events_of c.args.self.now.log) c.in-Skipped.module (sym (subst (λ v. c.next_in-next.result ≡ next_in (outline_of v.plan) (standing_at v)) c.self.view_is (at_build g.S.Shelf.told g.S.Shelf.faults c.self.inside.plan.now c.self.inside.core c.self.inside.opening.value c.self.inside.shelf c.self.inside.answers.kept c.self.inside.marks.items (room_of c.self.inside.answers c.self.inside.states) c.self.invariant (λ o es. c.next_in-next.result ≡ next_in o (standing_of o es)) c.next_in-next.ensures)) ∙ c.in-Skipped.is)

pub go-requires-in-Module-clause-may : goal.go-requires-in-Module-clause-may
go-requires-in-Module-clause-may g c = start_enabled (outline_of c.args.self.now.plan) (events_of c.args.self.now.log) c.args.worker c.in-Module.module c.requires.worker c.requires.idle (sym (subst (λ v. c.next_in-next.result ≡ next_in (outline_of v.plan) (standing_at v)) c.self.view_is (at_build g.S.Shelf.told g.S.Shelf.faults c.self.inside.plan.now c.self.inside.core c.self.inside.opening.value c.self.inside.shelf c.self.inside.answers.kept c.self.inside.marks.items (room_of c.self.inside.answers c.self.inside.states) c.self.invariant (λ o es. c.next_in-next.result ≡ next_in o (standing_of o es)) c.next_in-next.ensures)) ∙ c.in-Module.is)

pub returns-in-Skipped-clause-next : goal.returns-in-Skipped-clause-next
returns-in-Skipped-clause-next g c = sym c.in-Skipped.is ∙ subst (λ v. c.next_in-next.result ≡ next_in (outline_of v.plan) (standing_at v)) c.self.view_is (at_build g.S.Shelf.told g.S.Shelf.faults c.self.inside.plan.now c.self.inside.core c.self.inside.opening.value c.self.inside.shelf c.self.inside.answers.kept c.self.inside.marks.items (room_of c.self.inside.answers c.self.inside.states) c.self.invariant (λ o es. c.next_in-next.result ≡ next_in o (standing_of o es)) c.next_in-next.ensures)

pub returns-in-Module-clause-next : goal.returns-in-Module-clause-next
returns-in-Module-clause-next g c = sym c.in-Module.is ∙ subst (λ v. c.next_in-next.result ≡ next_in (outline_of v.plan) (standing_at v)) c.self.view_is (at_build g.S.Shelf.told g.S.Shelf.faults c.self.inside.plan.now c.self.inside.core c.self.inside.opening.value c.self.inside.shelf c.self.inside.answers.kept c.self.inside.marks.items (room_of c.self.inside.answers c.self.inside.states) c.self.invariant (λ o es. c.next_in-next.result ≡ next_in o (standing_of o es)) c.next_in-next.ensures)

pub returns-in-Wait-clause-next : goal.returns-in-Wait-clause-next
returns-in-Wait-clause-next g c = subst (λ v. c.next_in-next.result ≡ next_in (outline_of v.plan) (standing_at v)) c.self.view_is (at_build g.S.Shelf.told g.S.Shelf.faults c.self.inside.plan.now c.self.inside.core c.self.inside.opening.value c.self.inside.shelf c.self.inside.answers.kept c.self.inside.marks.items (room_of c.self.inside.answers c.self.inside.states) c.self.invariant (λ o es. c.next_in-next.result ≡ next_in o (standing_of o es)) c.next_in-next.ensures)

pub returns-in-Wait-clause-wait : goal.returns-in-Wait-clause-wait
returns-in-Wait-clause-wait g c =
    let law = subst (λ v. NeverWaits (outline_of v.plan) (standing_at v)) c.self.view_is (at_build g.S.Shelf.told g.S.Shelf.faults c.self.inside.plan.now c.self.inside.core c.self.inside.opening.value c.self.inside.shelf c.self.inside.answers.kept c.self.inside.marks.items (room_of c.self.inside.answers c.self.inside.states) c.self.invariant (λ o es. NeverWaits o (standing_of o es)) c.never_stuck.ensures.wait) in
    let sound = subst (λ v. IsSound (outline_of v.plan)) c.self.view_is c.self.invariant.sound.places in
    λ is on. wait_goes (outline_of c.args.self.now.plan) (events_of c.args.self.now.log) c.args.worker law sound c.requires.idle (sym (subst (λ v. c.next_in-next.result ≡ next_in (outline_of v.plan) (standing_at v)) c.self.view_is (at_build g.S.Shelf.told g.S.Shelf.faults c.self.inside.plan.now c.self.inside.core c.self.inside.opening.value c.self.inside.shelf c.self.inside.answers.kept c.self.inside.marks.items (room_of c.self.inside.answers c.self.inside.states) c.self.invariant (λ o es. c.next_in-next.result ≡ next_in o (standing_of o es)) c.next_in-next.ensures)) ∙ is) on
