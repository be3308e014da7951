use Rattle.outside_mem.specs.declared.pieces.Piece.{Piece}
use Rattle.mvn_outside.proofs.NumberMaps.{take_mapped}
use Rattle.outside_mem.proofs.area.MemArea.take.Goals as goal

pub returns-clause-sealed : goal.returns-clause-sealed
returns-clause-sealed g c =
    take_mapped (λ (p : Piece). p.sealed) c.args.self.now.pieces.entries c.remove.new.self.entries c.args.piece c.remove.ensures.updates.0

pub returns-clause-contents : goal.returns-clause-contents
returns-clause-contents g c =
    take_mapped (λ (p : Piece). p.bytes) c.args.self.now.pieces.entries c.remove.new.self.entries c.args.piece c.remove.ensures.updates.0
