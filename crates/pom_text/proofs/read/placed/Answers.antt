use Rattle.std.proofs.Common.{subst}
use Rattle.std.specs.Str.{chars}
use Rattle.pom_text.specs.Running.{outcome_of}
use Rattle.pom_text.specs.Runs.{EndsWith}
use Rattle.pom_text.proofs.read.placed.Goals as goal

pub place_of-place-requires : goal.place_of-place-requires
place_of-place-requires c = subst (λ r. EndsWith (chars c.args.text.now) (chars c.args.more.now) (outcome_of r)) c.in-Halted.is c.requires.rest
