use Rattle.std.proofs.Common.{◌≡◌, drop}
use Rattle.model_steps.specs.Validation.{first_problem, item_problem}
use Rattle.model_steps.proofs.validation.first_problem.Given as goal

abbrev pub invariant-loop-d : goal.invariant-loop-d
invariant-loop-d l = first_problem (item_problem l.managed l.pom) (drop l.d-index l.items) ≡ first_problem (item_problem l.managed l.pom) l.items
