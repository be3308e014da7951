use Rattle.std.proofs.Common.{sym, ◌∙◌}
use Rattle.lineage.proofs.beside.read_found.Goals as goal

pub returns-in_err-keep_read-clause-keeps : goal.returns-in_err-keep_read-clause-keeps
returns-in_err-keep_read-clause-keeps c = λ path found read. c.keep_read.ensures.keeps (sym c.in_ok-raw.ensures.value ∙ c.in_default.is) path found read
