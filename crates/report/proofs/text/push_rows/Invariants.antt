use Rattle.std.proofs.Common.{◌≡◌, ◌++◌, flat_map, drop}
use Rattle.report.specs.Report.{row_text}
use Rattle.report.proofs.text.push_rows.Given as goal

-- what is written, and what is left to write
abbrev pub invariant-loop-row : goal.invariant-loop-row
invariant-loop-row l = l.out.items ++ flat_map row_text (drop l.row-index l.rows) ≡ l.fn.out.items ++ flat_map row_text l.rows
