use Rattle.call_laws.proofs.Parting.{stay_apart}
use Rattle.call_laws.proofs.apart.faults_stay_apart_in_a_call.Goals as goal

pub returns : goal.returns
returns c = λ asked seen after told remote trace answers shelf tell history. stay_apart asked seen after told remote trace answers shelf tell history
