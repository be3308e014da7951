use Rattle.std.proofs.Common.{Ok}
use Rattle.call_laws.proofs.Stepping.{one_answer}
use Rattle.call_laws.specs.Again.{planned_over}
use Rattle.call_laws.proofs.Replanning.{planned_again}
use Rattle.call_laws.proofs.planning.plans_again.Goals as goal

pub returns : goal.returns
returns c = record {
  same = λ tree start remote files given line p planned apart grown. planned_again tree start remote files given line p planned apart grown;
  one = λ tree start remote files given line p said planned apart grown plans told.
      one_answer tree files remote given line said (Ok (planned_over files p)) plans (planned_again tree start remote files given line p planned apart grown) told tt;
}
