use Rattle.std.proofs.Common.{◌≡◌, ◌++◌, codes, map, drop}
use Rattle.pom_model.specs.Elements.{named_among}
use Rattle.pom_model.specs.Fields.{profile}
use Rattle.pom_model.proofs.profile.profiles_among.Given as goal

abbrev pub invariant-loop-k : goal.invariant-loop-k
invariant-loop-k l = l.list ++ map (profile l.nodes) (named_among l.nodes (codes "profile") (drop l.k-index l.ks)) ≡ map (profile l.nodes) (named_among l.nodes (codes "profile") l.ks)
