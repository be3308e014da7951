use Rattle.std.proofs.Common.{◌≡◌, ◌++◌, false, length}
use denote.Text.{Utf8}
use denote.Shadow.{shadow}
use Rattle.std.specs.Str.{chars, encode_utf8_all}
use Rattle.pom_text.specs.Parts.{lines}
use Rattle.pom_text.proofs.spelled.push_lines.Given as goal

abbrev pub invariant-loop-line : goal.invariant-loop-line
invariant-loop-line l = shadow (Utf8 l.rest) × (l.text ++ encode_utf8_all (lines l.returned (chars l.rest)) ≡ l.fn.text ++ encode_utf8_all (lines false (chars l.more)))

abbrev pub decreases-loop-line : goal.decreases-loop-line
decreases-loop-line l = length (chars l.rest)
