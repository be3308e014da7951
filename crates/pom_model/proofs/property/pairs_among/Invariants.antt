use Rattle.std.proofs.Common.{◌≡◌, [], fold, drop}
use Rattle.pom_model.specs.AnyNames.{all_in, put_entry}
use Rattle.pom_model.proofs.property.pairs_among.Given as goal

abbrev pub invariant-loop-k : goal.invariant-loop-k
invariant-loop-k l = fold put_entry l.entries.entries (all_in l.nodes (drop l.k-index l.ks)) ≡ fold put_entry [] (all_in l.nodes l.ks)
