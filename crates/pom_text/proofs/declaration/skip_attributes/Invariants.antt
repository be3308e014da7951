use Rattle.std.proofs.Common.{◌≡◌, length}
use Rattle.pom_text.specs.Reads.{attributes_of}
use Rattle.pom_text.proofs.declaration.skip_attributes.Given as goal

abbrev pub invariant-loop-behind : goal.invariant-loop-behind
invariant-loop-behind l = (attributes_of l.rest).1 ≡ (attributes_of l.text).1

abbrev pub decreases-loop-behind : goal.decreases-loop-behind
decreases-loop-behind l = length l.rest
