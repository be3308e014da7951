use Rattle.plan_law.proofs.Ones.{one_list}
use Rattle.plan_law.proofs.Texts.{ascending_climb}
use Rattle.plan_law.proofs.law.one_ascending.Goals as goal

pub returns : goal.returns
returns c = record { ascends = ascending_climb; one = one_list }
