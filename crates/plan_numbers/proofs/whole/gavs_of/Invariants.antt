use Rattle.std.proofs.Common.{◌≡◌, ◌++◌, drop}
use Rattle.module_plan.specs.Uses.{gavs}
use Rattle.plan_numbers.proofs.whole.gavs_of.Given as goal

abbrev pub invariant-loop-selected : goal.invariant-loop-selected
invariant-loop-selected l = l.list ++ gavs (drop l.selected-index l.modules) ≡ gavs l.modules
