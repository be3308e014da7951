use Rattle.gates.specs.Asking.{Touches}
use Rattle.gates.proofs.Steps.{on_err, touched_still}
use Rattle.gates.proofs.asking.ask.Goals as goal

pub returns-in-Ok-clause-err : goal.returns-in-Ok-clause-err
returns-in-Ok-clause-err g c =
    let told = g.P.Spawner.told c.args.spawner.now in
    let left = g.P.Spawner.told c.finish.new.spawner in
    on_err (Touches c.args.child told left) c.finish.result (touched_still told (g.P.Spawner.told c.exchange.new.spawner) left c.args.child _ c.in-Ok.ensures.exchanges.told c.finish.ensures.same)
