use Rattle.crew.proofs.Counts.{calm, ends, missing, shelf}
use Rattle.crew.proofs.Sums.{workers}
use Rattle.crew.proofs.counting.faults_are_counted.Goals as goal

pub returns : goal.returns
returns c = record {
  ends = λ plan run test is. ends test plan run is;
  workers = λ plan run test is. workers test plan run is;
  calm = calm;
  shelf = shelf;
  missing = missing;
}
