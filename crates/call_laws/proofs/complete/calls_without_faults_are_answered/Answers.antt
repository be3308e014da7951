use Rattle.call_laws.proofs.Completing.{answered}
use Rattle.call_laws.proofs.complete.calls_without_faults_are_answered.Goals as goal

pub returns : goal.returns
returns c = λ asked seen after told trace answers status before now sink_before sink_now call shelf none four. answered asked seen after told sink_before sink_now shelf none trace answers status before now call four
