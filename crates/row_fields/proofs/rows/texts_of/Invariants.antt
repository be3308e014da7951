use Rattle.std.proofs.Common.{◌≡◌, take, All}
use Rattle.std.specs.Str.{IsUtf8}
use Rattle.row_fields.proofs.rows.texts_of.Given as goal

abbrev pub invariant-loop-field : goal.invariant-loop-field
invariant-loop-field l = record {
  texts : l.texts ≡ take l.field-index l.fields;
  utf8 : All IsUtf8 (take l.field-index l.fields);
}
