use Rattle.run_law.proofs.Paths.{all_bare}
use Rattle.run_law.proofs.gathering.skips_carry_nothing.Goals as goal

pub returns : goal.returns
returns c = λ told log is. all_bare told log is
