use Rattle.std.proofs.Common.{arith, sym, ◌∙◌}
use Rattle.pom_text.proofs.Bounds.{chosen_within}
use Rattle.pom_text.proofs.read.read_marked.Goals as goal

pub refused-requires : goal.refused-requires
refused-requires c = omega (arith, c.requires.mark, c.requires.bytes, chosen_within c.args.bytes.now c.in-Err.place (sym c.encoding_of.ensures ∙ c.in-Err.is))
