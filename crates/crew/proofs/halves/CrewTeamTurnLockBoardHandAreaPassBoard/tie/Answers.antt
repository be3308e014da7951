use Rattle.crew_turns.specs.Hands.{state_by}
use Rattle.crew_turns.specs.Seen.{seen_by}
use Rattle.crew.specs.Crews.{opened_by}
use Rattle.crew.proofs.Rests.{left_still, made_one}
use Rattle.crew.proofs.halves.CrewTeamTurnLockBoardHandAreaPassBoard.tie.Goals as goal

pub returns : goal.returns
returns g c =
    let opened = opened_by g.S.Shelf.told g.S.Shelf.faults c.args.self.now.plan.now c.args.self.now.opening.value in
    record {
      done = made_one opened c.args.lock.now c.args._first c.args._left c.args._right c.args.pass.now c.args.other c.join.new.pass c.requires.left c.requires.right c.join.ensures.joined;
      keeps_left = λ k before now from to is. left_still opened k (state_by g.R.Remote.files g.R.Remote.faults g.S.Area.Area.contents g.S.Area.Area.faults g.S.Area.Area.pieces g.G.Gate.answers g.G.Gate.faults before) (state_by g.R.Remote.files g.R.Remote.faults g.S.Area.Area.contents g.S.Area.Area.faults g.S.Area.Area.pieces g.G.Gate.answers g.G.Gate.faults now) (seen_by c.args.pass.now) (seen_by c.join.new.pass) is c.join.ensures.own_log;
      keeps_right = λ k before now from to is. left_still opened k (state_by g.R.Remote.files g.R.Remote.faults g.S.Area.Area.contents g.S.Area.Area.faults g.S.Area.Area.pieces g.G.Gate.answers g.G.Gate.faults before) (state_by g.R.Remote.files g.R.Remote.faults g.S.Area.Area.contents g.S.Area.Area.faults g.S.Area.Area.pieces g.G.Gate.answers g.G.Gate.faults now) (seen_by c.args.other) (seen_by c.join.new.pass) is c.join.ensures.other_log;
    }
