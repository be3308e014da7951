use Rattle.std.proofs.Common.{codes}
use Rattle.std.specs.Str.{chars}
use Rattle.pom_text.proofs.Firsts.{starts_not, starts_so}
use Rattle.pom_text.proofs.reader.begins_doctype.Goals as goal

pub returns-in-Some : goal.returns-in-Some
returns-in-Some c = starts_so (codes "<!DOCTYPE") (chars c.args.text.now) (chars c.in-Some.field-0.now) c.in-Some.ensures

pub returns-in-None : goal.returns-in-None
returns-in-None c = starts_not (codes "<!DOCTYPE") (chars c.args.text.now) c.in-None.ensures
