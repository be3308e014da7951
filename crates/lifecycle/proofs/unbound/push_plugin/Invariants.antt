use Rattle.std.proofs.Common.{◌≡◌, ◌++◌, map, flat_map, drop}
use Rattle.lifecycle.specs.Goals.{executions_of, unbound_of}
use Rattle.lifecycle.proofs.unbound.push_plugin.Given as goal

abbrev pub invariant-loop-execution : goal.invariant-loop-execution
invariant-loop-execution l = l.list ++ flat_map unbound_of (map (λ e. (l.plugin, e)) (drop l.execution-index l.execution-items)) ≡ l.initial.list ++ flat_map unbound_of (executions_of l.plugin)
