use Rattle.std.proofs.Common.{Some, ap, subst, sym, ◌∙◌}
use Rattle.event_core.specs.Enabled.{Enabled}
use Rattle.event_core.specs.Going.{NamesAscend, NeverLocked}
use Rattle.scripts.specs.Outlines.{outline_of}
use Rattle.event_core.specs.Runs.{events_of}
use Rattle.event_core.specs.Sound.{IsSound}
use Rattle.event_core.specs.Standing.{standing_of}
use Rattle.board.specs.Builds.{standing_at, tried_by}
use Rattle.board.specs.Keeping.{room_of}
use Rattle.board.proofs.Steps.{at_build, locked_is, same_holder}
use Rattle.board.proofs.board.Board.take.Goals as goal

pub holder_of-requires : goal.holder_of-requires
holder_of-requires g c =
    let law = subst (λ v. NamesAscend (outline_of v.plan) (standing_at v)) c.self.view_is (at_build g.S.Shelf.told g.S.Shelf.faults c.self.inside.plan.now c.self.inside.core c.self.inside.opening.value c.self.inside.shelf c.self.inside.answers.kept c.self.inside.marks.items (room_of c.self.inside.answers c.self.inside.states) c.self.invariant (λ o es. NamesAscend o (standing_of o es)) c.never_stuck.ensures.names) in
    let sound = subst (λ v. IsSound (outline_of v.plan)) c.self.view_is c.self.invariant.sound.places in
    let locked = locked_is (outline_of c.args.self.now.plan) (events_of c.args.self.now.log) c.args.worker c.args.name c.args.mode c.in-Err.why law sound c.requires.worker c.requires.due c.in-Err.ensures.err.0 in
    (locked.0, locked.1)

pub returns-in-Ok-clause-tried : goal.returns-in-Ok-clause-tried
unfolding Enabled
returns-in-Ok-clause-tried g c = ap tried_by (sym c.in-Ok.ensures.ok.0.2)

pub returns-in-Err-clause-tried : goal.returns-in-Err-clause-tried
returns-in-Err-clause-tried g c =
    let law = subst (λ v. NamesAscend (outline_of v.plan) (standing_at v)) c.self.view_is (at_build g.S.Shelf.told g.S.Shelf.faults c.self.inside.plan.now c.self.inside.core c.self.inside.opening.value c.self.inside.shelf c.self.inside.answers.kept c.self.inside.marks.items (room_of c.self.inside.answers c.self.inside.states) c.self.invariant (λ o es. NamesAscend o (standing_of o es)) c.never_stuck.ensures.names) in
    let sound = subst (λ v. IsSound (outline_of v.plan)) c.self.view_is c.self.invariant.sound.places in
    let locked = locked_is (outline_of c.args.self.now.plan) (events_of c.args.self.now.log) c.args.worker c.args.name c.args.mode c.in-Err.why law sound c.requires.worker c.requires.due c.in-Err.ensures.err.0 in
    ap tried_by (ap (λ h. Some h) (same_holder c.holder_of.result locked.0 (sym c.holder_of.ensures ∙ locked.1)) ∙ sym locked.2)

pub returns-in-Err-clause-busy : goal.returns-in-Err-clause-busy
returns-in-Err-clause-busy g c =
    let law = subst (λ v. NamesAscend (outline_of v.plan) (standing_at v)) c.self.view_is (at_build g.S.Shelf.told g.S.Shelf.faults c.self.inside.plan.now c.self.inside.core c.self.inside.opening.value c.self.inside.shelf c.self.inside.answers.kept c.self.inside.marks.items (room_of c.self.inside.answers c.self.inside.states) c.self.invariant (λ o es. NamesAscend o (standing_of o es)) c.never_stuck.ensures.names) in
    let never = subst (λ v. NeverLocked (outline_of v.plan) (standing_at v)) c.self.view_is (at_build g.S.Shelf.told g.S.Shelf.faults c.self.inside.plan.now c.self.inside.core c.self.inside.opening.value c.self.inside.shelf c.self.inside.answers.kept c.self.inside.marks.items (room_of c.self.inside.answers c.self.inside.states) c.self.invariant (λ o es. NeverLocked o (standing_of o es)) c.never_stuck.ensures.lock) in
    let sound = subst (λ v. IsSound (outline_of v.plan)) c.self.view_is c.self.invariant.sound.places in
    let locked = locked_is (outline_of c.args.self.now.plan) (events_of c.args.self.now.log) c.args.worker c.args.name c.args.mode c.in-Err.why law sound c.requires.worker c.requires.due c.in-Err.ensures.err.0 in
    λ h same on. never sound on c.args.worker c.args.name c.args.mode locked.0 c.requires.worker c.requires.due locked.2
