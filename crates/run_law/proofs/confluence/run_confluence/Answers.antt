use Rattle.run_law.proofs.Laws.{answered, same_files, same_outputs, same_states}
use Rattle.run_law.proofs.confluence.run_confluence.Goals as goal

pub returns : goal.returns
returns c = record {
  states = same_states;
  outputs = same_outputs;
  files = same_files;
  answered = answered;
}
