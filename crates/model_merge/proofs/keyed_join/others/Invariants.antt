use Rattle.std.proofs.Common.{◌≡◌, ◌++◌, List}
use Rattle.std.specs.Vec.Iter.{into_iter_items}
use Rattle.model_merge.specs.Keyed.{keyed, others}
use Rattle.model_merge.proofs.keyed_join.others.Given as goal

abbrev pub invariant-loop-item : goal.invariant-loop-item
invariant-loop-item g l = (items : List _) → l.index.entries ≡ keyed g.T.Keyed.key_of items → l.list ++ others g.T.Keyed.key_of items (into_iter_items l.item-iterator) ≡ others g.T.Keyed.key_of items l.fn.further
