use Rattle.std.proofs.Common.{◌≡◌, ◌++◌, drop, filter}
use Rattle.module_plan.specs.Plans.{entries_of}
use Rattle.module_plan.specs.Uses.{has_names}
use Rattle.module_plan.proofs.entries.all_entries.Given as goal

-- the entries so far, and those of the dependencies that are left
abbrev pub invariant-loop-winner : goal.invariant-loop-winner
invariant-loop-winner l =
    l.entries ++ entries_of l.built l.files (filter has_names (drop l.winner-index l.winners))
    ≡ entries_of l.built l.files (filter has_names l.winners)
