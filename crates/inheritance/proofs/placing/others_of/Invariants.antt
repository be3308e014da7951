use Rattle.std.proofs.Common.{◌≡◌, ◌++◌, List}
use Rattle.std.specs.Vec.Iter.{into_iter_items}
use Rattle.model_types.specs.declared.plugin.Plugin.{Plugin}
use Rattle.inheritance.specs.Others.{Stands}
use Rattle.inheritance.proofs.placing.others_of.Given as goal

abbrev pub invariant-loop-plugin : goal.invariant-loop-plugin
invariant-loop-plugin l = (done : List Plugin) × (done ++ into_iter_items l.plugin-iterator ≡ l.fn.child) × Stands l.parent done l.others.before l.others.last.items
