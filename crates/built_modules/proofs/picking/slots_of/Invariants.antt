use Rattle.std.proofs.Common.{◌≡◌, ◌++◌, map, Some}
use Rattle.std.specs.Vec.Iter.{into_iter_items}
use Rattle.built_modules.proofs.picking.slots_of.Given as goal

abbrev pub invariant-loop-item : goal.invariant-loop-item
invariant-loop-item g l = l.slots.items ++ map Some (into_iter_items l.item-iterator) ≡ map Some l.fn.items
