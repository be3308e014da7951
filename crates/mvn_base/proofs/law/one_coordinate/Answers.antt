use Rattle.mvn_base.proofs.Coordinates.{one_of_a_file, one_of_a_lock}
use Rattle.mvn_base.proofs.law.one_coordinate.Goals as goal

pub returns : goal.returns
returns c = record { file = one_of_a_file; lock = one_of_a_lock }
