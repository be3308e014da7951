use Rattle.std.proofs.Common.{◌≡◌, ◌++◌, drop, filter}
use Rattle.model_types.specs.declared.plugin.Execution.{Execution}
use Rattle.inheritance.proofs.handing.inherited_executions.Given as goal

abbrev pub invariant-loop-execution : goal.invariant-loop-execution
invariant-loop-execution l = l.kept ++ filter (λ (e : Execution). e.inherited) (drop l.execution-index l.list) ≡ filter (λ (e : Execution). e.inherited) l.list
