use Rattle.resolution.specs.Resolved.{note_of, notes_of}
use Rattle.resolution.proofs.Listed.{flat_one}
use Rattle.resolution.proofs.notes.notes_of.Goals as goal

pub loop-place-preserved : goal.loop-place-preserved
loop-place-preserved c =
    flat_one note_of c.loop-place.list c.add_note_at.new.list (notes_of c.args.winners.now) c.args.winners.now c.loop-place.place
    c.in_ok-add_note_at.ensures c.loop-place.invariant
