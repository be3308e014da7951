use Rattle.run_law.proofs.Laws.{room}
use Rattle.run_law.proofs.Lengths.{events_enough}
use Rattle.run_law.proofs.bound.runs_fit_in.Goals as goal

pub returns : goal.returns
returns c = record { room = room; bound = λ plan run sound is. events_enough plan sound run is }
