use Rattle.std.proofs.Common.{◌≡◌, ◌++◌, List, map}
use Rattle.std.specs.Vec.Iter.{into_iter_items}
use Rattle.model_merge.specs.Keyed.{keyed, overlaid}
use Rattle.model_merge.proofs.joined.all_overlaid.Given as goal

abbrev pub invariant-loop-item : goal.invariant-loop-item
invariant-loop-item g l = (items : List _) → l.index.entries ≡ keyed g.T.Keyed.key_of items → l.list ++ map (overlaid g.T.Keyed.key_of g.T.Mergeable.merge items) (into_iter_items l.item-iterator) ≡ map (overlaid g.T.Keyed.key_of g.T.Mergeable.merge items) l.fn.parent
