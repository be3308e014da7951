use Rattle.std.proofs.Common.{◌≡◌, ◌++◌, drop}
use Rattle.pom_model.specs.Groups.{directories_among}
use Rattle.pom_model.proofs.build.directories_among.Given as goal

abbrev pub invariant-loop-k : goal.invariant-loop-k
invariant-loop-k l = l.list ++ directories_among l.nodes l.name (drop l.k-index l.ks) ≡ directories_among l.nodes l.name l.ks
