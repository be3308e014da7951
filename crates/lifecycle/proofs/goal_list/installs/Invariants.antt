use Rattle.std.proofs.Common.{◌≡◌, drop}
use Rattle.std.specs.List.{list_any}
use Rattle.lifecycle.specs.Goals.{declared, installs, installs_in}
use Rattle.lifecycle.proofs.goal_list.installs.Given as goal

abbrev pub invariant-loop-plugin : goal.invariant-loop-plugin
invariant-loop-plugin l = list_any (installs_in l.phase) (declared (drop l.plugin-index l.plugins)) ≡ installs l.phase l.plugins
