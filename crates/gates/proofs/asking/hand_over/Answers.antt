use Rattle.children.specs.Children.{given_more}
use Rattle.gates.proofs.Steps.{hand_step, touched_still}
use Rattle.gates.proofs.asking.hand_over.Goals as goal

pub returns-in-Ok-clause-ok : goal.returns-in-Ok-clause-ok
returns-in-Ok-clause-ok g c = hand_step (g.P.Spawner.told c.args.spawner.now) (g.P.Spawner.told c.give_all.new.spawner) _ c.args.child c.args.bytes.now c.in_ok-give_all.ensures.ok c.in-Ok.ensures.ok

pub returns-in-Err-clause-err : goal.returns-in-Err-clause-err
returns-in-Err-clause-err g c = touched_still (g.P.Spawner.told c.args.spawner.now) (g.P.Spawner.told c.give_all.new.spawner) _ c.args.child (given_more c.args.bytes.now) c.in_ok-give_all.ensures.ok c.in-Err.ensures.err
