use Rattle.std.proofs.Common.{◌≡◌, ◌++◌, drop}
use Rattle.std.specs.Prelude.{filter, not}
use Rattle.model_types.specs.declared.dependency.Dependency.{Dependency}
use Rattle.model_steps.specs.Assembly.{is_dropped}
use Rattle.model_steps.proofs.assembly.transitive.Given as goal

abbrev pub invariant-loop-dependency : goal.invariant-loop-dependency
invariant-loop-dependency l = l.list ++ filter (λ (d : Dependency). not (is_dropped d)) (drop l.dependency-index l.dependency-items) ≡ filter (λ (d : Dependency). not (is_dropped d)) l.dependency-items
