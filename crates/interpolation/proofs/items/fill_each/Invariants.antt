use Rattle.std.proofs.Common.{◌≡◌, List, [], drop}
use Rattle.mvn_base.specs.declared.machine.Pair.{Pair}
use Rattle.interpolation.specs.Filling.{each}
use Rattle.interpolation.specs.Tables.{IsTable}
use Rattle.interpolation.specs.Told.{prefixed}
use Rattle.interpolation.proofs.items.fill_each.Given as goal

abbrev pub invariant-loop-item : goal.invariant-loop-item
invariant-loop-item g l = (known : List Pair) → IsTable known [] l.initial.filler → IsTable known [] l.filler × (prefixed l.list (each (g.T.Fill.filled known) (drop l.item-index l.item-items)) ≡ each (g.T.Fill.filled known) l.item-items)
