use Rattle.std.proofs.Common.{◌≡◌, List, [], drop}
use Rattle.mvn_base.specs.declared.machine.Pair.{Pair}
use Rattle.interpolation.specs.Filling.{each}
use Rattle.interpolation.specs.Texts.{text_of}
use Rattle.interpolation.specs.Tables.{IsTable}
use Rattle.interpolation.specs.Told.{prefixed}
use Rattle.interpolation.proofs.items.fill_texts.Given as goal

abbrev pub invariant-loop-text : goal.invariant-loop-text
invariant-loop-text l = (known : List Pair) → IsTable known [] l.initial.filler → IsTable known [] l.filler × (prefixed l.list (each (text_of known l.element) (drop l.text-index l.text-items)) ≡ each (text_of known l.element) l.text-items)
