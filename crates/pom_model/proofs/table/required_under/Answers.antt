use Rattle.pom_model.proofs.Spans.{required_cut}
use Rattle.pom_model.proofs.table.required_under.Goals as goal

pub returns : goal.returns
returns c = required_cut c.args.kind c.required_span-from.result c.rows.result.now c.required_span-from.ensures c.rows.ensures.rows
