use Rattle.std.proofs.Common.{◌≡◌, List, fold, drop}
use Rattle.model_merge.specs.Keyed.{keyed, put, settled}
use Rattle.model_merge.proofs.keyed_join.index_of.Given as goal

abbrev pub invariant-loop-item : goal.invariant-loop-item
invariant-loop-item g l = (done : List _) × (l.index.entries ≡ keyed g.T.Keyed.key_of done) × (fold (put g.T.Keyed.key_of) done (drop l.item-index l.items) ≡ settled g.T.Keyed.key_of l.items)
