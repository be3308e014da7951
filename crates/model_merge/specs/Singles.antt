-- The program's own words for a plugin in which nothing can stand twice.
use Rattle.std.specs.Prelude.{Bool, ◌&&◌, nat_lt, List, length}
use Rattle.std.specs.List.{list_all}
use Rattle.model_types.specs.declared.plugin.Execution.{Execution}
use Rattle.model_types.specs.declared.plugin.Plugin.{Plugin}

abbrev pub has_single_goal : Execution → Bool
has_single_goal e = nat_lt (length e.goals) 2

abbrev pub is_single : Plugin → Bool
is_single p = nat_lt (length p.dependencies) 2 && (nat_lt (length p.executions) 2 && list_all has_single_goal p.executions)
