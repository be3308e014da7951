use Rattle.std.specs.Str.Iter.{chars_rest}
use Rattle.pom_text.proofs.Forbids.{StandsAt}
use Rattle.pom_text.proofs.allowed.allowed_len.Given as goal

abbrev pub invariant-loop-c : goal.invariant-loop-c
invariant-loop-c l = StandsAt l.text (chars_rest l.c-iterator) l.total
