use Rattle.run_law.proofs.Paths.{needed, part, summed}
use Rattle.run_law.proofs.gathering.entries_are_summed.Goals as goal

pub returns : goal.returns
returns c = record {
  part = λ paths count. part paths count;
  more = λ paths path. summed paths path;
  needed = λ plan files outputs need entries. needed plan files outputs need entries;
}
