use Rattle.run_law.proofs.Laws.{ended_keeps, ended_so, files_between, untouched_outputs, untouched_state}
use Rattle.run_law.proofs.isolation.faults_stay_apart.Goals as goal

pub returns : goal.returns
returns c = record {
  states = λ g run said fitting complete extends number low is. untouched_state g run said fitting extends complete number low is;
  outputs = λ g run said fitting complete extends number low is. untouched_outputs g run said fitting extends complete number low is;
  ended = λ g run said fitting extends number e low is not. ended_so g run said fitting extends number e low is not;
  kept = λ g run said fitting extends number e low is not. ended_keeps g run said fitting extends number e low is not;
  files = files_between;
}
