use Rattle.std.proofs.Common.{◌∙◌, sym, subst}
use Rattle.std.specs.List.{All}
use Rattle.std.specs.Prelude.{OnOk}
use Rattle.std.specs.Str.{IsUtf8}
use Rattle.row_fields.proofs.rows.texts.Goals as goal

pub returns-clause-utf8 : goal.returns-clause-utf8
returns-clause-utf8 c = subst (λ v. OnOk c.texts_of.result (All IsUtf8 v)) (c.as_slice.ensures.value ∙ c.in_ok-fields.ensures) c.texts_of.ensures.utf8

pub returns-clause-not_utf8 : goal.returns-clause-not_utf8
returns-clause-not_utf8 c = λ e all. c.texts_of.ensures.not_utf8 e (subst (All IsUtf8) (sym (c.as_slice.ensures.value ∙ c.in_ok-fields.ensures)) all)
