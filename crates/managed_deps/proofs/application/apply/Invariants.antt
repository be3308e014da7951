use Rattle.std.proofs.Common.{◌≡◌, ◌++◌, map, drop}
use Rattle.managed_deps.specs.Managed.{apply_one}
use Rattle.managed_deps.proofs.application.apply.Given as goal

abbrev pub invariant-loop-dependency : goal.invariant-loop-dependency
invariant-loop-dependency l = l.list ++ map (apply_one l.set) (drop l.dependency-index l.dependencies) ≡ map (apply_one l.set) l.dependencies
