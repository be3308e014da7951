use Rattle.mvn_outside.proofs.NumberMaps.{one_taken}
use Rattle.outside_real.proofs.area.RealArea.forget.Goals as goal

pub returns-clause-pieces : goal.returns-clause-pieces
returns-clause-pieces g c =
    one_taken c.args.self.now.pieces.entries c.remove.new.self.entries c.args.piece c.remove.ensures.updates.0
