use Rattle.std.proofs.Common.{◌≡◌, ◌++◌, filter, map}
use Rattle.std.specs.Vec.Iter.{into_iter_items}
use Rattle.model_types.specs.declared.plugin.Plugin.{Plugin}
use Rattle.inheritance.specs.Placing.{handed_on, inheritable}
use Rattle.inheritance.proofs.placing.inheritable.Given as goal

abbrev pub invariant-loop-plugin : goal.invariant-loop-plugin
invariant-loop-plugin l = l.list ++ map handed_on (filter (λ (p : Plugin). p.inherited) (into_iter_items l.plugin-iterator)) ≡ inheritable l.fn.parent
