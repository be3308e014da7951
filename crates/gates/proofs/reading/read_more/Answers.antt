use Rattle.gates.proofs.Steps.{touched_self}
use Rattle.gates.proofs.reading.read_more.Goals as goal

pub returns-in_default-clause-err : goal.returns-in_default-clause-err
returns-in_default-clause-err g c = touched_self (g.P.Spawner.told c.args.spawner.now) (g.P.Spawner.told c.read.new.self) c.args.child c.in_default.ensures.err
