use Rattle.std.proofs.Common.{◌≡◌, ◌++◌, map, drop}
use Rattle.model_steps.specs.Assembly.{with_scope}
use Rattle.model_steps.proofs.assembly.with_scopes.Given as goal

abbrev pub invariant-loop-dependency : goal.invariant-loop-dependency
invariant-loop-dependency l = l.list ++ map with_scope (drop l.dependency-index l.dependency-items) ≡ map with_scope l.dependency-items
