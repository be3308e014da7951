use Rattle.std.proofs.Common.{arith}
use Rattle.pom_text.proofs.Bounds.{bad_seen}
use Rattle.pom_text.proofs.read.read_encoded.Goals as goal

pub refused-requires : goal.refused-requires
refused-requires c = omega (arith, c.requires.mark, c.requires.bytes, bad_seen c.args.encoding c.args.bytes.now c.in_ok-text.field-0 c.in-Err.place c.in-Err.is c.in_ok-text.ensures.text)
