-- A board may cross threads, field by field; so may a pass of its lock, and its lock may be shared by them.
use denote.RattleType.{RattleType}
use denote.Param.Send.{sendable, view_send}
use denote.Param.SendFields.{declared_send}
use Rattle.std.proofs.Crossing
use Rattle.std.proofs.vec.Vec.TheSendSync as vec
use Rattle.mvn_outside.specs.declared.area.Area as area
use Rattle.mvn_outside.specs.declared.shelf.Shelf as shelf
use Rattle.event_core.proofs.run.Core.TheSendSync as core
use Rattle.event_core.specs.contracts.entry.RunEntry as entry
use Rattle.board.proofs.table.AnswerTable.TheSendSync as answers
use Rattle.turn_lock.proofs.lock.Pass.TheSendSync as pass
use Rattle.turn_lock.proofs.lock.TurnLock.TheSendSync as lock
use Rattle.board.proofs.states.StateRoom.TheSendSync as states
use Rattle.board.specs.contracts.board.Board as board
use Rattle.board.specs.contracts.board.Board.TheInside as inside
use Rattle.board.specs.contracts.kept.BoardKept.TheImpl as board_kept
use Rattle.board.specs.contracts.kept.Opened as opened
use Rattle.build_core.proofs.Sharing.{plan_sync}
use Rattle.board.specs.Crossings.{BoardCrosses, LockIsShared, PassCrosses}

-- a board may cross threads, if its repository may: its fields in order
pub board_send : (S A : RattleType) (s : shelf.Ghosts S.Denot A.Denot) (a : area.Ghosts A.Denot) → BoardCrosses S A s a
board_send S A s a κ sent = view_send (inside.the_row κ S A s a) _ _ _ _ (declared_send (inside.the_type κ S A s a) (
  search (sendable, plan_sync),
  (
    search (core.the_send, sendable),
    (
      search (sendable, sent),
      (
        search (Crossing.crosses, sendable),
        (
          search (answers.the_send, sendable),
          (
            search (vec.the_send, Crossing.crosses, sendable) depth 60,
            (search (states.the_send, sendable), tt),
          ),
        ),
      ),
    ),
  ),
))

-- threads may share its lock
pub lock_sync : (S A : RattleType) (s : shelf.Ghosts S.Denot A.Denot) (a : area.Ghosts A.Denot) → LockIsShared S A s a
lock_sync S A s a κ sent = lock.the_sync (board.the_row κ S A s a) opened.the_row entry.the_row (board_kept.ghosts S A s board_kept.no_dict a board_kept.no_dict) (board_send S A s a κ sent)

-- a pass of its lock may cross threads
pub pass_send : (S A : RattleType) (s : shelf.Ghosts S.Denot A.Denot) (a : area.Ghosts A.Denot) → PassCrosses S A s a
pass_send S A s a κ sent = pass.the_send (board.the_row κ S A s a) opened.the_row entry.the_row (board_kept.ghosts S A s board_kept.no_dict a board_kept.no_dict) (board_send S A s a κ sent)
