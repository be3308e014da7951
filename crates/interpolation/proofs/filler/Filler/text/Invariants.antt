use Rattle.std.proofs.Common.{◌≡◌, List, [], drop}
use Rattle.mvn_base.specs.declared.machine.Pair.{Pair}
use Rattle.interpolation.specs.KnownValues.{filled_from, value}
use Rattle.interpolation.specs.Tables.{IsTable}
use Rattle.interpolation.proofs.filler.Filler.text.Given as goal

abbrev pub invariant-loop-part : goal.invariant-loop-part
invariant-loop-part l = (known : List Pair) → IsTable known [] l.initial.self → IsTable known [] l.self × (filled_from l.place (value known []) l.done (drop l.part-index l.part-items) ≡ filled_from l.place (value known []) [] l.part-items)
