-- Each side of a fork has fewer exclusions than the fork.
use Rattle.std.specs.Prelude.{◌≤◌, max, length}
use Rattle.std.proofs.Common.{arith, length-append}
use Rattle.collector.specs.declared.node.Part.{Part}
use Rattle.collector.specs.declared.node.Part.TheVariants.{Fork, Leaf}
use Rattle.collector.specs.declared.node.Node.TheDeep.{deep-Part}
use Rattle.collector.specs.Parts.{IsPart, items_of}

pub falls : (part : Part) → IsPart part → max (deep-Part part) 0 ≤ length (items_of part)
falls (Leaf items) h = omega arith
falls (Fork bit left right) h = omega (arith, h.left_some, h.right_some, length-append left.value right.value)
