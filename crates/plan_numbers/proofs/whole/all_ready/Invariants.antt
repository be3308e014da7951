use Rattle.std.proofs.Common.{◌≡◌, ◌++◌, map}
use Rattle.std.specs.List.{AllByRecursion}
use Rattle.std.specs.Vec.Iter.{into_iter_items}
use Rattle.module_plan.specs.Ready.{ready}
use Rattle.plan_numbers.specs.Whole.{HasGav}
use Rattle.plan_numbers.proofs.whole.all_ready.Given as goal

-- the modules so far, and those that are left, whose coordinates are valid
abbrev pub invariant-loop-selected : goal.invariant-loop-selected
invariant-loop-selected l = record {
  list : l.list ++ map (ready l.phase l.built) (into_iter_items l.selected-iterator) ≡ map (ready l.phase l.built) l.fn.modules;
  named : AllByRecursion HasGav (into_iter_items l.selected-iterator);
}
