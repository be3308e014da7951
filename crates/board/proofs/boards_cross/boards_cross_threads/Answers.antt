use denote.Param.{param}
use Rattle.board.proofs.Sharing.{board_send, lock_sync, pass_send}
use Rattle.board.proofs.boards_cross.boards_cross_threads.Goals as goal

pub returns : goal.returns
returns g c = record {
  sent = board_send (param 0 g.row.S) (param 1 g.row.S-Area) g.S.Shelf g.S.Area.Area;
  shared = lock_sync (param 0 g.row.S) (param 1 g.row.S-Area) g.S.Shelf g.S.Area.Area;
  pass = pass_send (param 0 g.row.S) (param 1 g.row.S-Area) g.S.Shelf g.S.Area.Area;
}
