use Rattle.std.proofs.Common.{◌≡◌, map, drop}
use Rattle.std.specs.List.{list_any}
use Rattle.lifecycle.specs.Goals.{executions_of, installs_in}
use Rattle.lifecycle.proofs.goal_list.plugin_installs.Given as goal

abbrev pub invariant-loop-execution : goal.invariant-loop-execution
invariant-loop-execution l = list_any (installs_in l.phase) (map (λ e. (l.plugin, e)) (drop l.execution-index l.execution-items)) ≡ list_any (installs_in l.phase) (executions_of l.plugin)
