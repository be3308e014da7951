use Rattle.std.proofs.Common.{◌≡◌, ◌++◌}
use Rattle.std.specs.Vec.Iter.{into_iter_items}
use Rattle.inheritance.proofs.placing.appended.Given as goal

abbrev pub invariant-loop-plugin : goal.invariant-loop-plugin
invariant-loop-plugin l = l.list.items ++ into_iter_items l.plugin-iterator ≡ l.fn.first.items ++ l.fn.second.items
