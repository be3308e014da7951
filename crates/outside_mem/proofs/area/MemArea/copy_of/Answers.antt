use Rattle.std.proofs.Common.{◌≡◌, Some, None, sym, ap, ◌∙◌}
use Rattle.outside_mem.specs.declared.pieces.Piece.{Piece}
use Rattle.mvn_outside.proofs.NumberMaps.{some_mapped, there_mapped}
use Rattle.outside_mem.proofs.area.MemArea.copy_of.Goals as goal

pub returns-in_ok-clone-in-Some : goal.returns-in_ok-clone-in-Some
returns-in_ok-clone-in-Some g c =
    some_mapped (λ (p : Piece). p.bytes) c.args.self.now.pieces.entries c.args.piece c.in-Some.found.now (sym c.in-Some.ensures.value)
    ∙ ap Some (sym c.in_ok-clone-in-Some.ensures.cases)

pub returns-in-None : goal.returns-in-None
returns-in-None g c =
    let there = there_mapped (λ (p : Piece). p.sealed) c.args.self.now.pieces.entries c.args.piece _ c.requires in
    let none : None ≡ Some there.0 = c.in-None.ensures.value ∙ there.1 in
    cc
