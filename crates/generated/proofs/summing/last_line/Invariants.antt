use Rattle.std.proofs.Common.{◌≡◌, [], false, drop, fold}
use Rattle.generated.specs.LastLines.{next}
use Rattle.generated.proofs.summing.last_line.Given as goal

abbrev pub invariant-loop-b : goal.invariant-loop-b
invariant-loop-b l = fold next (l.line.items, l.ended) (drop l.b-index l.text) ≡ fold next ([], false) l.text
