use Rattle.std.proofs.Common.{Some, sym, ap, ◌∙◌}
use Rattle.std.specs.FinMap as map
use Rattle.outside_mem.specs.declared.pieces.Piece.{Piece}
use Rattle.outside_mem.specs.Pieces.{bytes_of}
use Rattle.mvn_outside.proofs.NumberMaps.{none_mapped, put_mapped}
use Rattle.outside_mem.proofs.area.MemAreaArea.begin.Goals as goal

pub returns-in-Ok-clause-fresh : goal.returns-in-Ok-clause-fresh
returns-in-Ok-clause-fresh g c =
    none_mapped (λ (p : Piece). p.sealed) c.args.self.now.pieces.entries c.args.self.now.next (sym c.contains_key.ensures ∙ c.if-contains_key.false)

pub returns-in-Ok-clause-open : goal.returns-in-Ok-clause-open
returns-in-Ok-clause-open g c =
    put_mapped (λ (p : Piece). p.sealed) c.args.self.now.pieces.entries c.insert.new.self.entries c.args.self.now.next _ c.in-Ok.ensures.updates.0

pub returns-in-Ok-clause-empty : goal.returns-in-Ok-clause-empty
returns-in-Ok-clause-empty g c =
    let es = c.args.self.now.pieces.entries in
    ap Some (put_mapped (λ (p : Piece). p.bytes) es c.insert.new.self.entries c.args.self.now.next _ c.in-Ok.ensures.updates.0
    ∙ ap (map.insert (bytes_of es) c.args.self.now.next) (c.of.ensures ∙ c.new.ensures.items))
