use Rattle.model_laws.proofs.WholeLines.{line_is, line_of}
use Rattle.model_laws.proofs.lines.parents_in_line.Goals as goal

pub returns : goal.returns
returns c = record { line = line_is; there = line_of }
