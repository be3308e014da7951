use Rattle.std.proofs.Common.{None, subst}
use Rattle.memchr.specs.Find.{FindsNeedle}
use Rattle.pom_text.proofs.Needles.{ascii_nowhere}
use Rattle.pom_text.proofs.cuts.up_to.Goals as goal

pub returns-in-None : goal.returns-in-None
returns-in-None c = ascii_nowhere c.args.text.now c.args.mark.now c.utf8.text c.requires.ascii (subst (λ hay. FindsNeedle hay c.args.mark.now 0 None) c.as_bytes.ensures.value c.in-None.ensures)
