use Rattle.std.proofs.Common.{◌≡◌, fold, drop}
use Rattle.pom_model.specs.Places.{nowhere, seen}
use Rattle.pom_model.proofs.places.places_among.Given as goal

abbrev pub invariant-loop-k : goal.invariant-loop-k
invariant-loop-k l = fold (seen l.nodes) l.places (drop l.k-index l.ks) ≡ fold (seen l.nodes) nowhere l.ks
