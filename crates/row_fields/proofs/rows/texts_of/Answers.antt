use Rattle.std.proofs.Common.{Err, ap, sym, subst, arith}
use Rattle.std.proofs.lemmas.Grind.{common_steps}
use Rattle.std.proofs.lemmas.List.{take_all}
use Rattle.std.proofs.lemmas.List.Elements.{All-more}
use Rattle.std.specs.List.{All}
use Rattle.std.specs.Str.{IsUtf8}
use Rattle.row_fields.proofs.rows.texts_of.Goals as goal

pub returns-in-Err-NotUtf8-clause-not_utf8 : goal.returns-in-Err-NotUtf8-clause-not_utf8
returns-in-Err-NotUtf8-clause-not_utf8 c = λ e all. c.in-Err-NotUtf8.ensures.not_utf8 (ap Err c.in-Err-NotUtf8.field-0-is) (subst IsUtf8 (sym c.as_slice.ensures) (subst IsUtf8 (sym c.field-item.is) (all c.loop-field.field-index c.field-item.result c.loop-field-test.true)))

pub loop-field-preserved : goal.loop-field-preserved
loop-field-preserved c = record {
  texts = grind (arith, common_steps);
  utf8 = All-more IsUtf8 c.args.fields.now c.loop-field.field-index c.field-item.result c.loop-field-test.true c.loop-field.invariant.utf8 (subst IsUtf8 c.field-item.is (subst IsUtf8 c.as_slice.ensures c.in-Ok.ensures.utf8));
}

pub returns-clause-utf8 : goal.returns-clause-utf8
returns-clause-utf8 c = subst (All IsUtf8) (take_all c.loop-field.field-index c.args.fields.now (omega arith)) c.loop-field.invariant.utf8
