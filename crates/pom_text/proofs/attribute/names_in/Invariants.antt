use Rattle.std.proofs.Common.{◌≡◌, ◌++◌, length}
use denote.Text.{Utf8}
use denote.Shadow.{shadow}
use Rattle.std.specs.Str.{chars}
use Rattle.pom_text.specs.Reads.{attributes_of, names_of}
use Rattle.pom_text.proofs.attribute.names_in.Given as goal

abbrev pub invariant-loop-attribute : goal.invariant-loop-attribute
invariant-loop-attribute l = shadow (Utf8 l.rest) × (l.names ++ names_of (attributes_of (chars l.rest)).0 ≡ names_of (attributes_of (chars l.text)).0)

abbrev pub decreases-loop-attribute : goal.decreases-loop-attribute
decreases-loop-attribute l = length (chars l.rest)
