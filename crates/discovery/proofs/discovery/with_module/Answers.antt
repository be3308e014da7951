use Rattle.std.proofs.Common.{◌≡◌, Ok}
use Rattle.pom_source.specs.Chains.{goes_on}
use Rattle.discovery.specs.Discovery.{named, read_pom, with_pom}
use Rattle.discovery.proofs.Projects.{named_there}
use Rattle.discovery.proofs.discovery.with_module.Goals as goal

pub returns-in-Ok-clause-says : goal.returns-in-Ok-clause-says
returns-in-Ok-clause-says g c = λ world fits holds.
    let said : named world read_pom c.args.listed.now c.args.found ≡ Ok c.in-Ok.pom = c.in-Ok.ensures.says world c.args.given.now fits holds in
    goes_on (named world read_pom c.args.listed.now c.args.found) (with_pom world c.args.given.now c.args.found c.args.waiting) c.in-Ok.pom c.with_pom.result said
    (c.with_pom.ensures.says world (c.in-Ok.ensures.fit world fits) (c.in-Ok.ensures.holds world c.args.given.now fits holds)
    (named_there world c.args.given.now c.args.listed.now c.args.found c.in-Ok.pom said))

pub returns-in-Ok-clause-keeps : goal.returns-in-Ok-clause-keeps
returns-in-Ok-clause-keeps g c = λ path found read. c.with_pom.ensures.keeps path found (c.in-Ok.ensures.keeps path found read)
