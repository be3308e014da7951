use Rattle.std.proofs.Common.{◌≡◌, ◌++◌, flat_map, drop}
use Rattle.std.specs.String.{string_bytes}
use Rattle.row_fields.specs.Spelling.{escaped_byte}
use Rattle.row_fields.proofs.answers.escaped.Given as goal

abbrev pub invariant-loop-b : goal.invariant-loop-b
invariant-loop-b l = string_bytes l.out ++ flat_map escaped_byte (drop l.b-index l.answer) ≡ flat_map escaped_byte l.answer
