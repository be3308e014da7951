use Rattle.gates.specs.Asking.{handed}
use Rattle.gates.proofs.Steps.{exchanged, touched_then}
use Rattle.gates.proofs.asking.exchange.Goals as goal

pub returns-in-Ok-clause-exchanges : goal.returns-in-Ok-clause-exchanges
returns-in-Ok-clause-exchanges g c = exchanged (g.P.Spawner.told c.args.spawner.now) (g.P.Spawner.told c.hand_over.new.spawner) _ c.args.child c.args.bytes.now _ c.in_ok-hand_over.ensures.ok c.in-Ok.ensures.reads c.in-Ok.ensures.output

pub returns-in-Err-clause-err : goal.returns-in-Err-clause-err
returns-in-Err-clause-err g c = touched_then (g.P.Spawner.told c.args.spawner.now) (g.P.Spawner.told c.hand_over.new.spawner) _ c.args.child (handed c.args.bytes.now) c.in_ok-hand_over.ensures.ok c.in-Err.ensures.err
