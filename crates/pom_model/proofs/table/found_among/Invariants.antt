use Rattle.std.proofs.Common.{◌≡◌, map, drop, find}
use Rattle.pom_model.specs.Spans.{is_named}
use Rattle.pom_model.specs.Table.{row_view}
use Rattle.pom_model.proofs.table.found_among.Given as goal

abbrev pub invariant-loop-element : goal.invariant-loop-element
invariant-loop-element l = find (is_named l.name) (map row_view (drop l.element-index l.rows)) ≡ find (is_named l.name) (map row_view l.rows)
