-- What may cross threads of a board over a repository `S` with areas `A`, given what their values tell (`s`, `a`), and whatever lifetime its plan
-- has. Project rule.
use denote.RattleType.{RattleType}
use denote.Ref.{NamedLft}
use denote.Param.Send.{IsSend, IsSync}
use Rattle.mvn_outside.specs.declared.area.Area as area
use Rattle.mvn_outside.specs.declared.shelf.Shelf as shelf
use Rattle.event_core.specs.contracts.entry.RunEntry as entry
use Rattle.turn_lock.specs.contracts.lock.Pass as pass
use Rattle.turn_lock.specs.contracts.lock.TurnLock as lock
use Rattle.board.specs.contracts.board.Board as board
use Rattle.board.specs.contracts.kept.BoardKept.TheImpl as board_kept
use Rattle.board.specs.contracts.kept.Opened as opened

-- a board may go from one thread to another, if its repository may
abbrev pub BoardCrosses : (S A : RattleType) → shelf.Ghosts S.Denot A.Denot → area.Ghosts A.Denot → Type 0
BoardCrosses S A s a = (κ : NamedLft) → IsSend S → IsSend (board.the_row κ S A s a)

-- threads may share the lock of a board, if its repository may go from one to another
abbrev pub LockIsShared : (S A : RattleType) → shelf.Ghosts S.Denot A.Denot → area.Ghosts A.Denot → Type 0
LockIsShared S A s a = (κ : NamedLft) → IsSend S
    → IsSync (lock.the_row (board.the_row κ S A s a) opened.the_row entry.the_row (board_kept.ghosts S A s board_kept.no_dict a board_kept.no_dict))

-- a pass of that lock may go from one thread to another, if the repository may
abbrev pub PassCrosses : (S A : RattleType) → shelf.Ghosts S.Denot A.Denot → area.Ghosts A.Denot → Type 0
PassCrosses S A s a = (κ : NamedLft) → IsSend S
    → IsSend (pass.the_row (board.the_row κ S A s a) opened.the_row entry.the_row (board_kept.ghosts S A s board_kept.no_dict a board_kept.no_dict))
