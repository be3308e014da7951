use Rattle.std.proofs.Common.{◌≡◌, ◌+◌, drop}
use Rattle.std.specs.List.{prefix_len}
use Rattle.pom_text.specs.Encodings.{is_ascii}
use Rattle.pom_text.proofs.encoding.ascii_len.Given as goal

abbrev pub invariant-loop-i : goal.invariant-loop-i
invariant-loop-i l = l.i + prefix_len is_ascii (drop l.i l.bytes) ≡ prefix_len is_ascii l.bytes
