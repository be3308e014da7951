-- What is told of a build of the generated project, in place of the report. Project rule.
use Rattle.std.specs.Prelude.{ℕ, List, ◌++◌, codes}
use Rattle.std.specs.Fmt.{decimal}
use Rattle.report.specs.declared.row.ReportRow.{ReportRow}
use Rattle.report.specs.Report.{line, total_text}

-- the number of POMs, the line of totals, the entries of all classpaths for tests, and the files in the repository
unfoldable pub summary_with : (poms : ℕ) → (total : List ℕ) → (entries files : ℕ) → List ℕ
summary_with poms total entries files = line (codes "generated " ++ decimal poms) ++ total ++ line (codes "classpath entries " ++ decimal entries) ++ line (codes "files " ++ decimal files)

-- the line of totals is the report's
abbrev pub summary_text : (poms : ℕ) → List ReportRow → (entries files : ℕ) → List ℕ
summary_text poms rows entries files = summary_with poms (total_text rows) entries files
