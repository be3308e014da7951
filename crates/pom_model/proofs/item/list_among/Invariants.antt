use Rattle.std.proofs.Common.{◌≡◌, ◌++◌, map, drop}
use Rattle.pom_model.specs.Elements.{named_among}
use Rattle.pom_model.proofs.item.list_among.Given as goal

abbrev pub invariant-loop-k : goal.invariant-loop-k
invariant-loop-k g l = l.list ++ map (g.T.Item.value l.nodes) (named_among l.nodes l.name (drop l.k-index l.ks)) ≡ map (g.T.Item.value l.nodes) (named_among l.nodes l.name l.ks)
