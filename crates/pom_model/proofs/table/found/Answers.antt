use Rattle.std.proofs.Common.{ap, ◌∙◌, find, option_map}
use Rattle.pom_model.specs.Spans.{is_named}
use Rattle.pom_model.specs.Table.{Row}
use Rattle.pom_model.proofs.Spans.{found_so}
use Rattle.pom_model.proofs.table.found.Goals as goal

pub returns : goal.returns
returns c =
    c.found_among.ensures ∙ ap (λ rows. option_map (λ (r : Row). (r.inner, r.times)) (find (is_named c.args.name.now) rows)) c.rows_under.ensures
    ∙ found_so c.args.under c.args.name.now
