use Rattle.std.proofs.Common.{◌≡◌, ◌++◌, map, drop}
use Rattle.report.specs.BuildDetails.{note_text}
use Rattle.report.proofs.notes.push_notes.Given as goal

-- the notes so far, and those that are left
abbrev pub invariant-loop-note : goal.invariant-loop-note
invariant-loop-note l = l.list ++ map note_text (drop l.note-index l.notes) ≡ l.fn.list ++ map note_text l.notes
