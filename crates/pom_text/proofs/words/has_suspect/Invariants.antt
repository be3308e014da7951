use Rattle.std.proofs.Common.{◌≡◌, ◌||◌, drop}
use Rattle.std.specs.List.{list_any}
use Rattle.pom_text.specs.Lent.{is_suspect}
use Rattle.pom_text.proofs.words.has_suspect.Given as goal

abbrev pub invariant-loop-b : goal.invariant-loop-b
invariant-loop-b l = (l.found || list_any is_suspect (drop l.b-index l.text)) ≡ list_any is_suspect l.text
