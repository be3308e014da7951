use Rattle.crew_turns.specs.Hands.{state_by}
use Rattle.crew.specs.Crews.{opened_by}
use Rattle.crew.proofs.Rests.{done, fits, left, of}
use Rattle.crew.proofs.halves.CrewTeamTurnLockBoardHandAreaPassBoard.work.Goals as goal

pub work_on-requires : goal.work_on-requires
work_on-requires g c =
    let opened = opened_by g.S.Shelf.told g.S.Shelf.faults c.args.self.now.plan.now c.args.self.now.opening.value in
    let hand = state_by g.R.Remote.files g.R.Remote.faults g.S.Area.Area.contents g.S.Area.Area.faults g.S.Area.Area.pieces g.G.Gate.answers g.G.Gate.faults c.args.hand.now in
    record {
      few = c.requires.over.few;
      of = of opened c.args.lock.now c.args.first c.args.pass.now c.requires;
      clear = c.requires.rest.clear;
      own = fits opened c.args.lock.now c.args.first c.args.pass.now c.requires hand.told;
    }

pub returns : goal.returns
returns g c =
    let opened = opened_by g.S.Shelf.told g.S.Shelf.faults c.args.self.now.plan.now c.args.self.now.opening.value in
    record {
      done = done opened c.args.lock.now c.args.first c.args.pass.now c.requires c.work_on.new.pass c.work_on.ensures.of c.work_on.ensures.follows c.work_on.ensures.complete c.work_on.ensures.clear;
      leaves = left opened c.args.lock.now c.args.first c.args.pass.now c.requires c.work_on.new.pass c.work_on.ensures.of c.work_on.ensures.follows c.work_on.ensures.complete (state_by g.R.Remote.files g.R.Remote.faults g.S.Area.Area.contents g.S.Area.Area.faults g.S.Area.Area.pieces g.G.Gate.answers g.G.Gate.faults c.args.hand.now) (state_by g.R.Remote.files g.R.Remote.faults g.S.Area.Area.contents g.S.Area.Area.faults g.S.Area.Area.pieces g.G.Gate.answers g.G.Gate.faults c.work_on.new.hand) c.work_on.ensures.own c.work_on.ensures.worked;
    }
