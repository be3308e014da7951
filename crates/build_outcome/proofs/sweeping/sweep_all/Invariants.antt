use Rattle.std.proofs.Common.{◌-◌, length, map}
use Rattle.crew_turns.specs.Hands.{state_by}
use Rattle.build_outcome.proofs.Swept.{IsSweeping}
use Rattle.build_outcome.proofs.sweeping.sweep_all.Given as goal

-- the first so many hands are swept, and the others as they were
abbrev pub invariant-loop-at : goal.invariant-loop-at
invariant-loop-at g l =
    let state = state_by g.R.Remote.files g.R.Remote.faults g.A.Area.contents g.A.Area.faults g.A.Area.pieces g.G.Gate.answers g.G.Gate.faults in
    IsSweeping l.at (map state l.fn.hands) (map state l.hands)

abbrev pub decreases-loop-at : goal.decreases-loop-at
decreases-loop-at g l = length l.hands - l.at
