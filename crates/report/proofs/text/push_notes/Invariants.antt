use Rattle.std.proofs.Common.{◌≡◌, ◌++◌, [], flat_map, drop}
use Rattle.report.specs.Report.{indented}
use Rattle.report.proofs.text.push_notes.Given as goal

-- what is written, and what is left to write
abbrev pub invariant-loop-note : goal.invariant-loop-note
invariant-loop-note l = l.out.items ++ flat_map (indented []) (drop l.note-index l.notes) ≡ l.fn.out.items ++ flat_map (indented []) l.notes
