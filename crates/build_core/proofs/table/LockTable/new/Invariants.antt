use Rattle.std.proofs.Common.{◌≡◌, None, map, replicate}
use Rattle.build_core.proofs.table.LockTable.new.Given as goal

-- so many names, each of them free
abbrev pub invariant-loop-count : goal.invariant-loop-count
invariant-loop-count l = map (λ r. r.items) l.held.items ≡ replicate l._count (replicate l.workers None)
