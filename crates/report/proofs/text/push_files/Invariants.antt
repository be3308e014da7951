use Rattle.std.proofs.Common.{◌≡◌, ◌++◌, flat_map, drop}
use Rattle.report.specs.Report.{indented}
use Rattle.report.proofs.text.push_files.Given as goal

-- what is written, and what is left to write
abbrev pub invariant-loop-file : goal.invariant-loop-file
invariant-loop-file l = l.out.items ++ flat_map (indented l.word) (drop l.file-index l.files) ≡ l.fn.out.items ++ flat_map (indented l.word) l.files
