use Rattle.std.proofs.Common.{◌≡◌, Ok, subst}
use Rattle.pom_source.specs.Answers.{Fails}
use Rattle.lineage.specs.Lineage.{joined_up, line}
use Rattle.lineage.proofs.stored.with_places.Goals as goal

pub returns-in-Ok-clause-says : goal.returns-in-Ok-clause-says
returns-in-Ok-clause-says g c = λ world fits holds are.
    subst (λ seen. line world c.args.given.now (joined_up world c.args.given.now 31) seen c.args.raw.now ≡ Ok c.in-Ok.line) c.new-none.ensures (c.in-Ok.ensures.says world fits holds are)

pub returns-clause-says : goal.returns-clause-says
returns-clause-says g c = λ world fits holds are.
    subst (λ seen. Fails (line world c.args.given.now (joined_up world c.args.given.now 31) seen c.args.raw.now) c.in-Err.fault) c.new-none.ensures (c.in-Err.ensures.says world fits holds are)
