use Rattle.crew_turns.specs.Hands.{state_by}
use Rattle.crew.specs.Between.{IsBetween}
use Rattle.crew.proofs.worker.work_on.Given as goal

-- the worker builds no module, and its hand is as its modules left it
abbrev pub invariant-loop : goal.invariant-loop
invariant-loop g l = IsBetween l.plan l.lock l.worker l.initial.pass l.pass (state_by g.R.Remote.files g.R.Remote.faults g.S.Area.Area.contents g.S.Area.Area.faults g.S.Area.Area.pieces g.G.Gate.answers g.G.Gate.faults l.initial.hand) (state_by g.R.Remote.files g.R.Remote.faults g.S.Area.Area.contents g.S.Area.Area.faults g.S.Area.Area.pieces g.G.Gate.answers g.G.Gate.faults l.hand)
