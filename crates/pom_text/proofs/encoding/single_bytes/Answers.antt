use Rattle.std.proofs.Common.{arith, ap, ◌∙◌, length, take_all}
use Rattle.std.specs.String.{string_bytes}
use Rattle.std.specs.Str.{chars, encode_utf8_all}
use Rattle.pom_text.proofs.Decodes.{bytes_within, text_more, single_chars}
use Rattle.pom_text.proofs.encoding.single_bytes.Goals as goal

pub loop-b-preserved : goal.loop-b-preserved
loop-b-preserved c = text_more c.args.bytes.now c.loop-b.b-index (string_bytes c.loop-b.text) (string_bytes c.push.new.self) c.loop-b-test.true c.loop-b.invariant c.in_ok-push.ensures.bytes

pub returns : goal.returns
returns c =
    let whole = c.loop-b.invariant ∙ ap encode_utf8_all (take_all c.loop-b.b-index c.args.bytes.now c.loop-b-test.false) in
    record { text = ap chars whole ∙ single_chars c.args.bytes.now (λ k. omega (arith, c.type_inv.bytes k)); within = omega (arith, ap length whole, bytes_within c.args.bytes.now) }
