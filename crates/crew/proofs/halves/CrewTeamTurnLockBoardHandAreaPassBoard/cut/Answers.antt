use Rattle.crew.specs.Crews.{opened_by}
use Rattle.crew.proofs.Rests.{cut_left, cut_right}
use Rattle.crew.proofs.halves.CrewTeamTurnLockBoardHandAreaPassBoard.cut.Goals as goal

pub returns : goal.returns
returns g c =
    let opened = opened_by g.S.Shelf.told g.S.Shelf.faults c.args.self.now.plan.now c.args.self.now.opening.value in
    record {
      left = cut_left opened c.args.lock.now c.args._first c.args._left c.args._right c.args.pass.now c.requires.whole c.requires.half.1 c.split.new.pass c.in-Ok.ensures.left;
      right = cut_right opened c.args.lock.now c.args._first c.args._left c.args._right c.args.pass.now c.requires.whole c.requires.half.1 c.in-Ok.other c.in-Ok.ensures.own c.in-Ok.ensures.right;
    }
