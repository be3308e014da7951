use Rattle.std.proofs.Common.{◌≡◌, arith, ◌∙◌}
use Rattle.build_core.proofs.Tables.{rows_many, rows_wide}
use Rattle.build_core.proofs.table.LockTable.new.Goals as goal

pub invariant_of-result : goal.invariant_of-result
invariant_of-result c =
    let count = rows_many (λ r. r.items) c.loop-count.held.items c.loop-count._count c.args.workers c.loop-count.invariant in
    let last : c.loop-count._count ≡ c.args.names = omega (arith, c.loop-count-test.false, c.loop-count.auto._count-end) in
    (count ∙ last, rows_wide (λ r. r.items) c.loop-count.held.items c.loop-count._count c.args.workers c.loop-count.invariant)
