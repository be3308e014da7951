use Rattle.std.proofs.Common.{Err, Some, ap, ◌∙◌}
use Rattle.version_index.proofs.Fronts.{no_text, some_text}
use Rattle.version_index.proofs.reading.text_of.Goals as goal

pub returns-in-Ok : goal.returns-in-Ok
returns-in-Ok c = ap Some c.in-Ok.ensures.text ∙ some_text c.args.bytes.now c.in-Ok.ensures.utf8

pub returns-in-Err-NotUtf8 : goal.returns-in-Err-NotUtf8
returns-in-Err-NotUtf8 c = no_text c.args.bytes.now (c.in-Err-NotUtf8.ensures.not_utf8 (ap Err c.in-Err-NotUtf8.field-0-is))
