use Rattle.effective.proofs.Standing.{is_found}
use Rattle.effective.proofs.imports.+built.Goals as goal

pub import_found-returns-in-Ok-import_read-clause-says : goal.import_found-returns-in-Ok-import_read-clause-says
import_found-returns-in-Ok-import_read-clause-says g t c = λ world fits holds.
    is_found world c.args.given.now c.args.pom.now c.args.building.now c.args.gav.now c.in-Ok.raw c.in-Ok-import_read.import
    (c.in-Ok.ensures.says world c.args.given.now fits holds)
    (c.in-Ok-import_read.ensures.says world (c.wanted.ensures.fit world fits) (c.wanted.ensures.holds world c.args.given.now fits holds))
