use Rattle.std.proofs.Common.{rules, arith, ap, ◌∙◌, length}
use Rattle.std.proofs.lemmas.Str.{utf8_valid_len-IsUtf8}
use Rattle.std.specs.Str.{chars}
use Rattle.pom_text.proofs.Decodes.{all_valid, not_valid}
use Rattle.pom_text.proofs.encoding.decode_utf8.Goals as goal

pub returns-in-Ok : goal.returns-in-Ok
returns-in-Ok c =
    let valid = utf8_valid_len-IsUtf8 c.args.bytes.now c.in-Ok.ensures.cases.1 in
    record { text = all_valid c.args.bytes.now (chars c.in-Ok.text.now) valid (ap chars c.in-Ok.ensures.cases.0); within = omega (arith, ap length c.in-Ok.ensures.cases.0) }

pub returns-in-Err : goal.returns-in-Err
returns-in-Err c = record { text = not_valid c.args.bytes.now c.valid_up_to.result (c.valid_up_to.ensures ∙ c.in-Err.ensures.valid_len) (search (rules, c.valid_up_to.ensures, c.in-Err.ensures.cases.1.short)); within = record {} }
