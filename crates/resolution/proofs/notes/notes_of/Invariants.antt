use Rattle.std.proofs.Common.{◌≡◌, ◌++◌, drop, flat_map}
use Rattle.resolution.specs.Resolved.{note_of, notes_of}
use Rattle.resolution.proofs.notes.notes_of.Given as goal

abbrev pub invariant-loop-place : goal.invariant-loop-place
invariant-loop-place l = l.list ++ flat_map note_of (drop l.place l.winners) ≡ notes_of l.winners
