use Rattle.std.proofs.Common.{◌≡◌, ◌&&◌, drop}
use Rattle.std.specs.List.{list_any}
use Rattle.lifecycle.specs.Goals.{installs_in, is_install, is_reached, phase_at}
use Rattle.lifecycle.proofs.goal_list.installs_in.Given as goal

abbrev pub invariant-loop-goal : goal.invariant-loop-goal
invariant-loop-goal l = list_any (λ g. is_install (l.plugin, l.execution) g && is_reached l.phase (phase_at (l.plugin, l.execution) g)) (drop l.goal-index l.goal-items) ≡ installs_in l.phase (l.plugin, l.execution)
