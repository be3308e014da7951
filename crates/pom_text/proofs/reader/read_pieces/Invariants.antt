use Rattle.std.proofs.Common.{◌≡◌, ◌+◌, ◌≤◌, length}
use denote.Text.{Utf8}
use denote.Shadow.{shadow}
use Rattle.std.specs.Str.{chars}
use Rattle.pom_text.specs.Growth.{standing_of}
use Rattle.pom_text.specs.Running.{run}
use Rattle.pom_text.specs.Tree.{nothing_yet}
use Rattle.pom_text.proofs.reader.read_pieces.Given as goal

abbrev pub invariant-pieces : goal.invariant-pieces
invariant-pieces l = record {
  utf8 : shadow (Utf8 l.rest);
  same : run l.whole (standing_of l.tree) (chars l.rest) ≡ run l.whole nothing_yet (chars l.text);
  few : length l.tree.nodes.items + length (chars l.rest) ≤ length (chars l.text);
}

abbrev pub decreases-pieces : goal.decreases-pieces
decreases-pieces l = length (chars l.rest)
