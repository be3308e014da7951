use Rattle.std.proofs.Common.{◌≡◌, drop, find, map}
use Rattle.pom_model.specs.Faults.{is_alone}
use Rattle.pom_model.specs.Spans.{is_lacking}
use Rattle.pom_model.specs.Table.{row_view}
use Rattle.pom_model.proofs.walk.missing_among.Given as goal

abbrev pub invariant-loop-name : goal.invariant-loop-name
invariant-loop-name l = find (is_lacking l.nodes l.node (is_alone l.nodes l.node)) (map row_view (drop l.name-index l.rows)) ≡ find (is_lacking l.nodes l.node (is_alone l.nodes l.node)) (map row_view l.rows)
