use Rattle.std.proofs.Common.{◌≡◌, drop, filter}
use Rattle.std.specs.FinMap as finite
use Rattle.module_plan.specs.Numbers.{with_texts}
use Rattle.module_plan.specs.Uses.{fetched_locks, has_names}
use Rattle.module_plan.proofs.uses.all_locks.Given as goal

-- the locks so far, and those of the dependencies that are left
abbrev pub invariant-loop-winner : goal.invariant-loop-winner
invariant-loop-winner l =
    with_texts l.locks (fetched_locks l.built (filter has_names (drop l.winner-index l.winners)))
    ≡ with_texts finite.empty (fetched_locks l.built (filter has_names l.winners))
