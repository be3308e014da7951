use Rattle.std.proofs.Common.{◌≡◌, ◌++◌, map, drop}
use Rattle.model_merge.proofs.settling.each_settled.Given as goal

abbrev pub invariant-loop-item : goal.invariant-loop-item
invariant-loop-item g l = l.list ++ map g.T.Mergeable.settle (drop l.item-index l.items) ≡ map g.T.Mergeable.settle l.items
