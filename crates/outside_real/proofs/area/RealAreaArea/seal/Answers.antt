use Rattle.std.proofs.Common.{true}
use Rattle.mvn_outside.proofs.NumberMaps.{one_put}
use Rattle.outside_real.proofs.area.RealAreaArea.seal.Goals as goal

pub returns-in-Ok-clause-ok : goal.returns-in-Ok-clause-ok
returns-in-Ok-clause-ok g c =
    one_put c.args.self.now.pieces.entries c.insert.new.self.entries c.args.piece true c.in-Ok.ensures.updates.0
