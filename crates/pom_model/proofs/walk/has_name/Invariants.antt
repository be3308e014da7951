use Rattle.std.proofs.Common.{◌≡◌, drop}
use Rattle.pom_model.specs.Faults.{has_name}
use Rattle.pom_model.proofs.walk.has_name.Given as goal

abbrev pub invariant-loop-k : goal.invariant-loop-k
invariant-loop-k l = has_name l.nodes l.name (drop l.k-index l.before) ≡ has_name l.nodes l.name l.before
