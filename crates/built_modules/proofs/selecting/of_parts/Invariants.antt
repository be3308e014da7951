use Rattle.std.proofs.Common.{◌≡◌, ◌++◌, map}
use Rattle.std.specs.Vec.Iter.{into_iter_items}
use Rattle.built_modules.specs.Selected.{selected}
use Rattle.built_modules.proofs.selecting.of_parts.Given as goal

abbrev pub invariant-loop-part : goal.invariant-loop-part
invariant-loop-part l = l.modules ++ map selected (into_iter_items l.part-iterator) ≡ map selected l.fn.parts
