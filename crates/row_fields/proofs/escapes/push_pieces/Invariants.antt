use Rattle.std.proofs.Common.{◌≡◌, ◌++◌, flat_map, map, drop}
use Rattle.row_fields.specs.Spelling.{spelled}
use Rattle.row_fields.proofs.escapes.push_pieces.Given as goal

abbrev pub invariant-loop-piece : goal.invariant-loop-piece
invariant-loop-piece l = l.out.items ++ flat_map spelled (map (λ x. x.now) (drop l.piece-index l.pieces)) ≡ l.initial.out.items ++ flat_map spelled (map (λ x. x.now) l.pieces)
