use Rattle.profiles.proofs.Joins.{judges}
use Rattle.profiles.proofs.judge.Judge.of.Goals as goal

pub returns : goal.returns
returns c = judges _ c.args.defines.now c.args.raw.now.pom c.args.raw.now.profiles c.value-pom.ensures c.in_ok-known.ensures c.in_ok-place.ensures
