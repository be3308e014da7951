use Rattle.std.proofs.Common.{drop}
use Rattle.std.specs.HashMap.{get}
use Rattle.mvn_base.specs.Gav.{gav_eq}
use Rattle.model_resolver.specs.Places.{LeadToFirst}
use Rattle.model_resolver.proofs.poms.places_of.Given as goal

abbrev pub invariant-loop-at : goal.invariant-loop-at
invariant-loop-at l = LeadToFirst l.poms (drop l.at l.poms) (get gav_eq l.places)
