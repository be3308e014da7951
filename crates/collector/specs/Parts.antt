-- What a tree comes to. Project rule.
use Rattle.std.specs.Prelude.{List, ◌++◌, ⊤}
use Rattle.model_types.specs.declared.dependency.Exclusion.{Exclusion}
use Rattle.collector.specs.declared.node.Part.{Part}
use Rattle.collector.specs.declared.node.Part.TheVariants.{Fork, Leaf}
use Rattle.collector.specs.Nodes.{IsSplit}

-- its exclusions
abbrev pub items_of : Part → List Exclusion
items_of (Leaf items) = items
items_of (Fork bit left right) = left.value ++ right.value

-- each stands where its number leads
abbrev pub IsPart : Part → Type 0
IsPart (Leaf items) = ⊤
IsPart (Fork bit left right) = IsSplit bit left.value right.value
