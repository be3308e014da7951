use Rattle.std.proofs.Common.{refl, ap, arith, ◌∙◌}
use Rattle.std.proofs.lemmas.Result.{on_ok_weaker}
use Rattle.turn_lock.specs.declared.tally.Note.{Note}
use Rattle.turn_lock.specs.Noted.{notes_of}
use Rattle.turn_lock.specs.Passes.{view_of}
use Rattle.turn_lock.proofs.Tallies.{never_open, noted_more}
use Rattle.turn_lock.proofs.tally.note_down.Goals as goal

pub returns-clause-free : goal.returns-clause-free
returns-clause-free g c = (ap (λ p. p.2.turn) c.give.ensures, ap (λ p. p.2.owed) c.give.ensures ∙ never_open {E = Note} (λ n. n.worker) (c.take-value.new.pass.2).number c.add-added.new.self.notes.items)

pub returns-clause-noted : goal.returns-clause-noted
returns-clause-noted g c =
    let was = view_of c.args.pass.now in
    let number = c.requires.free.1 in
    let some = c.take-value.ensures.known.some_worker in
    let same = c.take-value.ensures.known.own c.args.worker (omega (arith, number)) (omega (arith, number, some)) in
    let seen = ap (λ p. p.2.seen) c.give.ensures in
    on_ok_weaker c.add-added.result
    (λ added. ap (notes_of c.args.worker) (seen ∙ added) ∙ noted_more c.args.worker was.seen c.take-value.result.value.notes.items (record { worker = c.args.worker; number = c.args.number }) refl same)
    c.add-added.ensures.ok
