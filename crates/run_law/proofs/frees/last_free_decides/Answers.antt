use Rattle.run_law.proofs.Freeing.{fetching, last, reading}
use Rattle.run_law.proofs.frees.last_free_decides.Goals as goal

pub returns : goal.returns
returns c = record {
  last = λ o there later held course some. last o there later held course some;
  fetching = λ o m number at answered there is low. fetching o m number answered there is at low;
  reading = λ o m number at answered there is low. reading o m number answered there is at low;
}
