-- The summary in place of a report. Project rule.
use Rattle.std.specs.Prelude.{◌≡◌, ℕ, Result, Ok, Err}
use Rattle.mvn_shared.specs.declared.memory.OutOfMemory.{OutOfMemory}
use Rattle.build_outcome.specs.declared.outcome.Outcome.{Outcome}
use Rattle.module_plan.specs.declared.selected.Planned.{Planned}
use Rattle.make_project.specs.Summaries.{summary_with}
use Rattle.generated.specs.EntryCounts.{entries_of}
use Rattle.generated.specs.LastLines.{last_line}

-- the summary of a report, whose last line is the line of totals
abbrev pub IsSummedUp : (poms : ℕ) → Planned → (files : ℕ) → (report : Result Outcome OutOfMemory) → Outcome → Type 0
IsSummedUp poms p files (Ok report) answer = answer ≡ record report { text = summary_with poms (last_line report.text) (entries_of p.resolutions) files }
IsSummedUp poms p files (Err error) answer = ⊥
