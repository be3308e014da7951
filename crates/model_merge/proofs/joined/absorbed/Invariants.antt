use Rattle.std.proofs.Common.{◌≡◌, List, fold, drop}
use Rattle.model_merge.specs.Keyed.{absorb, absorbed, keyed}
use Rattle.model_merge.proofs.joined.absorbed.Given as goal

abbrev pub invariant-loop-item : goal.invariant-loop-item
invariant-loop-item g l = (done : List _) × (l.index.entries ≡ keyed g.T.Keyed.key_of done) × (fold (absorb g.T.Keyed.key_of g.T.Mergeable.merge) done (drop l.item-index l.further) ≡ absorbed g.T.Keyed.key_of g.T.Mergeable.merge l.fn.items l.fn.further)
