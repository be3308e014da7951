use Rattle.call_laws.proofs.Leaving.{behind_between, left_behind}
use Rattle.call_laws.proofs.remains.calls_leave.Goals as goal

pub returns : goal.returns
returns c = record {
  history = left_behind;
  stop = λ world found low files high a b lies. behind_between world found low files high a b lies;
}
