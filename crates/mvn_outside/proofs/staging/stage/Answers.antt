use Rattle.std.proofs.Common.{◌≡◌, ℕ, ◌-◌, List, length, length-drop, false, true, ap, sym, ◌∙◌, take, drop, arith}
use Rattle.std.proofs.lemmas.List.{take_all}
use Rattle.std.proofs.lemmas.Result.{err_from_is_err_and}
use Rattle.std.specs.FinMap as map
use Rattle.mvn_outside.specs.Pieces.{extended}
use Rattle.mvn_outside.proofs.Stages.{put_there, staged_tells, insert_twice, one_part_more, keeps_pieces}
use Rattle.mvn_outside.proofs.staging.stage.Goals as goal

take_all_of_drop : (i : ℕ) (xs : List ℕ) → take (length xs - i) (drop i xs) ≡ drop i xs
take_all_of_drop i xs = take_all _ _ (simp length-drop (omega arith))

pub append-requires : goal.append-requires
append-requires g c =
    let piece = c.in_ok-piece.piece in
    ap (λ m. map.get m piece) c.loop-done.invariant.begun ∙ put_there _ piece false

pub returns-in_err-done-clause-err : goal.returns-in_err-done-clause-err
returns-in_err-done-clause-err g c =
    let p = err_from_is_err_and c.from_residual-in_err-done.result c.from_residual-in_err-done.ensures.1 in
    rw p.1 (keeps_pieces _ _ c.in_ok-piece.piece c.loop-done.invariant.fresh (c.append.ensures.pieces ∙ c.loop-done.invariant.begun))

pub loop-done-preserved : goal.loop-done-preserved
loop-done-preserved g c =
    let bytes = c.args.bytes.now in
    let done = c.loop-done.done in
    let count = c.in_ok-done.field-0 in
    let piece = c.in_ok-piece.piece in
    let was = g.A.Area.contents c.args.area.now in
    record {
      within = omega (arith, c.in_ok-done.ensures.within);
      fresh = c.loop-done.invariant.fresh;
      begun = c.append.ensures.pieces ∙ c.loop-done.invariant.begun;
      so_far =
          c.in_ok-done.ensures.takes ∙ ap (λ part. extended (g.A.Area.contents c.loop-done.area) piece (take count part)) (take_all_of_drop done bytes)
          ∙ ap (λ t. extended t piece (take count (drop done bytes))) c.loop-done.invariant.so_far
          ∙ one_part_more was piece done count bytes;
      never = c.append.ensures.never ∙ c.loop-done.invariant.never;
      quiet = c.in_ok-done.ensures.cause ∙ c.loop-done.invariant.quiet;
    }

pub seal-requires : goal.seal-requires
seal-requires g c =
    let piece = c.in_ok-piece.piece in
    ap (λ m. map.get m piece) c.loop-done.invariant.begun ∙ put_there _ piece false

pub returns-in_err-seal-clause-err : goal.returns-in_err-seal-clause-err
returns-in_err-seal-clause-err g c =
    let p = err_from_is_err_and c.from_residual-in_err-seal.result c.from_residual-in_err-seal.ensures.1 in
    rw p.1 (keeps_pieces _ _ c.in_ok-piece.piece c.loop-done.invariant.fresh (c.in_err-seal.ensures.err ∙ c.loop-done.invariant.begun))

pub returns-clause-sealed : goal.returns-clause-sealed
returns-clause-sealed g c =
    let piece = c.in_ok-piece.piece in
    c.in_ok-seal.ensures.ok ∙ ap (λ m. map.insert m piece true) c.loop-done.invariant.begun ∙ insert_twice _ piece false true
