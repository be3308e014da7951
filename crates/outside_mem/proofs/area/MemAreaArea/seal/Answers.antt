use Rattle.std.proofs.Common.{Some, ap}
use Rattle.outside_mem.specs.declared.pieces.Piece.{Piece}
use Rattle.outside_mem.specs.Pieces.{sealed_piece}
use Rattle.mvn_outside.proofs.NumberMaps.{same_mapped, change_mapped, there_mapped}
use Rattle.outside_mem.proofs.area.MemAreaArea.seal.Goals as goal

pub returns-clause-ok : goal.returns-clause-ok
returns-clause-ok g c =
    let es = c.args.self.now.pieces.entries in
    let there = there_mapped (λ (p : Piece). p.sealed) es c.args.piece _ c.requires in
    change_mapped (λ (p : Piece). p.sealed) sealed_piece es c.seal_at.new.pieces.entries c.args.piece there.0 there.1 c.seal_at.ensures.sealed

pub returns-clause-contents : goal.returns-clause-contents
returns-clause-contents g c =
    ap Some (same_mapped (λ (p : Piece). p.bytes) c.args.self.now.pieces.entries c.seal_at.new.pieces.entries c.seal_at.ensures.bytes)
