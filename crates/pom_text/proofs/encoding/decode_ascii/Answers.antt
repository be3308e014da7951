use Rattle.std.proofs.Common.{arith, ap, length}
use Rattle.pom_text.proofs.Decodes.{all_ascii, ascii_is_utf8, not_ascii}
use Rattle.pom_text.proofs.encoding.decode_ascii.Goals as goal

pub returns-then-n-bytes : goal.returns-then-n-bytes
returns-then-n-bytes c = record { text = not_ascii c.args.bytes.now c.ascii_len-n.result c.ascii_len-n.ensures.len (omega arith); within = record {} }

pub returns : goal.returns
returns c = record { text = all_ascii c.args.bytes.now c.in-Ok.text.now c.in-Ok.ensures.cases.0 (omega (arith, c.ascii_len-n.ensures.len)); within = omega (arith, ap length c.in-Ok.ensures.cases.0) }

pub unreachable-requires : goal.unreachable-requires
unreachable-requires c = c.in-Err.ensures.cases.0 (ascii_is_utf8 c.args.bytes.now (omega (arith, c.ascii_len-n.ensures.len)))
