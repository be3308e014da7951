use Rattle.std.proofs.Common.{◌≡◌, ◌++◌, drop}
use Rattle.model_merge.proofs.keyed_join.copies.Given as goal

abbrev pub invariant-loop-item : goal.invariant-loop-item
invariant-loop-item g l = l.copies ++ drop l.item-index l.items ≡ l.items
