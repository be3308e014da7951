use Rattle.std.proofs.Common.{◌≡◌, drop}
use Rattle.pom_model.specs.Elements.{first, named_among}
use Rattle.pom_model.proofs.element.child.Given as goal

abbrev pub invariant-loop-k : goal.invariant-loop-k
invariant-loop-k l = first (named_among l.nodes l.name (drop l.k-index l.k-items)) ≡ first (named_among l.nodes l.name l.k-items)
