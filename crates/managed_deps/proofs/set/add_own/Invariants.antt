use Rattle.std.proofs.Common.{◌≡◌, fold, drop}
use Rattle.managed_deps.specs.Managed.{add, own_entries}
use Rattle.managed_deps.proofs.set.add_own.Given as goal

abbrev pub invariant-loop-dependency : goal.invariant-loop-dependency
invariant-loop-dependency l = fold add l.set (own_entries (drop l.dependency-index l.entries)) ≡ fold add l.initial.set (own_entries l.entries)
