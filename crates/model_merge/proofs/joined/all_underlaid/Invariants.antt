use Rattle.std.proofs.Common.{◌≡◌, ◌++◌, List, map, drop}
use Rattle.model_merge.specs.Keyed.{keyed, underlaid}
use Rattle.model_merge.proofs.joined.all_underlaid.Given as goal

abbrev pub invariant-loop-item : goal.invariant-loop-item
invariant-loop-item g l = (items : List _) → l.index.entries ≡ keyed g.T.Keyed.key_of items → l.list ++ map (underlaid g.T.Keyed.key_of g.T.Mergeable.merge items) (drop l.item-index l.child) ≡ map (underlaid g.T.Keyed.key_of g.T.Mergeable.merge items) l.child
