use Rattle.std.proofs.Common.{◌≡◌, ◌≤◌, length}
use Rattle.pom_text.specs.Openings.{encoding_from}
use Rattle.pom_text.proofs.declaration.encoding_from.Given as goal

abbrev pub invariant-loop-attribute : goal.invariant-loop-attribute
invariant-loop-attribute l = record {
  same : encoding_from l.total l.rest ≡ encoding_from l.total l.text;
  within : length l.rest ≤ l.total;
}

abbrev pub decreases-loop-attribute : goal.decreases-loop-attribute
decreases-loop-attribute l = length l.rest
