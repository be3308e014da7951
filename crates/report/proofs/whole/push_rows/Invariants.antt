use Rattle.std.proofs.Common.{◌≡◌, ◌++◌, drop}
use Rattle.std.specs.Vec.Iter.{into_iter_items}
use Rattle.build_core.specs.OneThread.{answer_at}
use Rattle.report.specs.Rows.{rows}
use Rattle.report.proofs.whole.push_rows.Given as goal

-- those so far, and those of the modules that are left
abbrev pub invariant-loop-detail : goal.invariant-loop-detail
invariant-loop-detail l = l.list.items ++ rows l.fn.plan (answer_at l.fn.answers) l.number (into_iter_items l.detail-iterator) (drop l.number l.fn.plan.modules) (drop l.number l.fn.states) ≡ l.fn.list.items ++ rows l.fn.plan (answer_at l.fn.answers) 0 l.fn.details l.fn.plan.modules l.fn.states
