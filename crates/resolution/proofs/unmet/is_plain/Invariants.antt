use Rattle.std.proofs.Common.{◌≡◌, drop}
use Rattle.versions.specs.Spelling.{is_plain}
use Rattle.resolution.proofs.unmet.is_plain.Given as goal

abbrev pub invariant-loop-byte : goal.invariant-loop-byte
invariant-loop-byte l = is_plain l.text ≡ is_plain (drop l.byte-index l.text)
