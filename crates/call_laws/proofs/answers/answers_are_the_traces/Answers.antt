use Rattle.call_laws.proofs.Numbering.{in_order, kept_once}
use Rattle.call_laws.proofs.answers.answers_are_the_traces.Goals as goal

pub returns : goal.returns
returns c = record { order = in_order; once = kept_once }
