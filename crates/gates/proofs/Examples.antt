-- Worked examples: what outputs and statuses answer.
use Rattle.std.proofs.Common.{◌≡◌, pos, negsuc, codes, refl}
use Rattle.std.specs.Fmt.{digits}
use Rattle.goal_types.specs.declared.goal.GoalAnswer.TheVariants.{Failed}
use Rattle.gates.specs.Answering.{child_answer, ended_with}

-- a status other than 0 counts, whatever was written
ended : child_answer (codes "x") (pos 7) ≡ Failed (codes "child ended with 7")
unfolding child_answer digits
ended = refl

ended_below : ended_with (negsuc 0) ≡ Failed (codes "child ended with -1")
unfolding digits
ended_below = refl
