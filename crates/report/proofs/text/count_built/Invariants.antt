use Rattle.std.proofs.Common.{◌≡◌, ◌+◌, drop}
use Rattle.report.specs.Report.{is_built, count_of}
use Rattle.report.proofs.text.count_built.Given as goal

-- those so far, and those among what is left
abbrev pub invariant-loop-row : goal.invariant-loop-row
invariant-loop-row l = l.count + count_of is_built (drop l.row-index l.rows) ≡ count_of is_built l.rows
