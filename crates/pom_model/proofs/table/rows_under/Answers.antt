use Rattle.pom_model.proofs.Spans.{cut_so}
use Rattle.pom_model.proofs.table.rows_under.Goals as goal

pub returns : goal.returns
returns c = cut_so c.args.kind c.span-from.result c.rows.result.now c.span-from.ensures c.rows.ensures.rows
