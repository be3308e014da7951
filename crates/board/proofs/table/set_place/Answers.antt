use Rattle.std.proofs.Common.{arith}
use Rattle.board.specs.Tables.{row_with}
use Rattle.board.proofs.Placed.{set_items}
use Rattle.board.proofs.table.set_place.Goals as goal

pub returns-then-number-len : goal.returns-then-number-len
returns-then-number-len c = set_items (λ row. row.items) c.args.rows.now.items c.args.number c.index_mut.result.now c.set_in.new.row (λ r. row_with r c.args.goal c.args.place) (omega (arith, c.if-number-len.true, c.len.ensures)) c.index_mut.ensures.value c.set_in.ensures
