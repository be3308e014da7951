use Rattle.std.proofs.Common.{◌≡◌, fold, drop}
use Rattle.managed_deps.specs.Managed.{add}
use Rattle.managed_deps.proofs.set.add_all.Given as goal

abbrev pub invariant-loop-dependency : goal.invariant-loop-dependency
invariant-loop-dependency l = fold add l.set (drop l.dependency-index l.entries) ≡ fold add l.initial.set l.entries
