use Rattle.std.proofs.Common.{◌≡◌, take}
use Rattle.std.specs.Str.{encode_utf8_all}
use Rattle.std.specs.String.{string_bytes}
use Rattle.pom_text.proofs.encoding.single_bytes.Given as goal

abbrev pub invariant-loop-b : goal.invariant-loop-b
invariant-loop-b l = string_bytes l.text ≡ encode_utf8_all (take l.b-index l.bytes)
