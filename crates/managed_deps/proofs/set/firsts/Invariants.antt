use Rattle.std.proofs.Common.{◌≡◌, flat_map, fold, drop}
use Rattle.managed_deps.specs.Managed.{add, all_entries, first_of_each}
use Rattle.managed_deps.proofs.set.firsts.Given as goal

abbrev pub invariant-loop-entries : goal.invariant-loop-entries
invariant-loop-entries l = fold add l.set (flat_map (λ entries. entries) (drop l.entries-index l.imports)) ≡ first_of_each (all_entries l.own l.imports)
