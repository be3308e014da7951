use Rattle.std.specs.HashMap.{get}
use Rattle.mvn_base.specs.Gav.{gav_eq}
use Rattle.project_models.proofs.Looking.{Looked}
use Rattle.project_models.proofs.doubles.first_double.Given as goal

abbrev pub invariant-loop-at : goal.invariant-loop-at
invariant-loop-at l = Looked (get gav_eq l.paths) l.poms l.models l.at
