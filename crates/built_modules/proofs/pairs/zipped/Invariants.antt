use Rattle.std.proofs.Common.{◌≡◌, ◌++◌, zip}
use Rattle.std.specs.Vec.Iter.{into_iter_items}
use Rattle.built_modules.proofs.pairs.zipped.Given as goal

abbrev pub invariant-loop-item : goal.invariant-loop-item
invariant-loop-item g l = l.list ++ zip (into_iter_items l.item-iterator) (into_iter_items l.others) ≡ zip l.fn.left l.fn.right
