use Rattle.std.proofs.Common.{◌++◌, [], Some, unwrap_or, sym, ap, ◌∙◌}
use Rattle.std.proofs.Math.Seq.{take-length}
use Rattle.std.proofs.lemmas.Result.{err_from_is_err_and}
use Rattle.std.specs.FinMap as map
use Rattle.std.specs.Option.{option_map}
use Rattle.outside_mem.specs.declared.pieces.Piece.{Piece}
use Rattle.outside_mem.specs.Pieces.{with_bytes, bytes_of}
use Rattle.mvn_outside.proofs.NumberMaps.{same_mapped, change_mapped, there_mapped, some_mapped}
use Rattle.outside_mem.proofs.area.MemAreaArea.append.Goals as goal

pub returns-in_err-extend_at-clause-pieces : goal.returns-in_err-extend_at-clause-pieces
returns-in_err-extend_at-clause-pieces g c =
    same_mapped (λ (p : Piece). p.sealed) c.args.self.now.pieces.entries c.extend_at.new.pieces.entries c.in_err-extend_at.ensures.sealed

pub returns-in_err-extend_at-clause-err : goal.returns-in_err-extend_at-clause-err
returns-in_err-extend_at-clause-err g c =
    let p = err_from_is_err_and c.from_residual.result c.from_residual.ensures.1 in
    let bytes = λ (p : Piece). p.bytes in
    rw p.1 (ap Some (same_mapped bytes c.args.self.now.pieces.entries c.extend_at.new.pieces.entries (λ q. ap (option_map bytes) (c.in_err-extend_at.ensures.err q))))

pub returns-clause-takes : goal.returns-clause-takes
returns-clause-takes g c =
    let es = c.args.self.now.pieces.entries in
    let bytes = λ (p : Piece). p.bytes in
    let more = c.args.bytes.now in
    let there = there_mapped (λ (p : Piece). p.sealed) es c.args.piece _ c.requires in
    let had = some_mapped bytes es c.args.piece there.0 there.1 in
    ap Some (change_mapped bytes (with_bytes more) es c.extend_at.new.pieces.entries c.args.piece there.0 there.1 c.in_ok-extend_at.ensures.ok
    ∙ ap (map.insert (bytes_of es) c.args.piece) (ap (λ o. unwrap_or o [] ++ more) (sym had) ∙ ap (λ m. unwrap_or (map.get (bytes_of es) c.args.piece) [] ++ m) (sym (take-length more))))

pub returns-clause-pieces : goal.returns-clause-pieces
returns-clause-pieces g c =
    same_mapped (λ (p : Piece). p.sealed) c.args.self.now.pieces.entries c.extend_at.new.pieces.entries c.in_ok-extend_at.ensures.sealed
