use Rattle.crew_turns.proofs.Opening.{open_is}
use Rattle.crew_turns.proofs.Turning.{came, sees, sees_fits, steps, steps_fits}
use Rattle.crew_turns.proofs.turned.turns_leave.Goals as goal

pub returns : goal.returns
returns c = record {
  opened = λ plan log w run. open_is plan w log run;
  came = λ plan lock w before log fixed workers of known. came plan lock w before of log fixed workers known;
  sees = λ plan lock w before log of has run. sees plan lock w before of log log has run;
  steps = λ plan lock w before log later e what of has is run. steps plan lock w before of log later has e what is run;
  sees_fit = λ plan lock w before log told of has fits. sees_fits plan lock w before of log log has told fits;
  steps_fit = λ plan lock w before log later told e of has is one fits. steps_fits plan lock w before of log later has told e is one fits;
}
