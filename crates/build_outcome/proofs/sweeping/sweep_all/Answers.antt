use Rattle.std.proofs.Common.{◌<◌, length, arith}
use Rattle.std.proofs.lemmas.Bool.Decides.{nat_tests}
use Rattle.crew_turns.specs.Hands.{state_by}
use Rattle.build_outcome.proofs.Swept.{next_swept, stop_failed, stop_tells}
use Rattle.build_outcome.proofs.sweeping.sweep_all.Goals as goal

pub returns-in-Err-clause-same : goal.returns-in-Err-clause-same
returns-in-Err-clause-same g c =
    let state = state_by g.R.Remote.files g.R.Remote.faults g.A.Area.contents g.A.Area.faults g.A.Area.pieces g.G.Gate.answers g.G.Gate.faults in
    let test = c.loop-at-test.true in
    let low : c.loop-at.at < length c.loop-at.hands = grind (arith, nat_tests, test) in
    stop_tells state c.loop-at.at c.args.hands.now c.loop-at.hands c.sweep_hand.new.hand c.index-hands-at.result c.loop-at.invariant low c.sweep_hand.ensures.same

pub returns-in-Err-clause-err : goal.returns-in-Err-clause-err
returns-in-Err-clause-err g c =
    let state = state_by g.R.Remote.files g.R.Remote.faults g.A.Area.contents g.A.Area.faults g.A.Area.pieces g.G.Gate.answers g.G.Gate.faults in
    let test = c.loop-at-test.true in
    let low : c.loop-at.at < length c.loop-at.hands = grind (arith, nat_tests, test) in
    λ failed. stop_failed state c.loop-at.at c.args.hands.now c.loop-at.hands c.sweep_hand.new.hand c.index-hands-at.result c.loop-at.invariant low (c.in-Err.ensures.err failed)

pub loop-at-preserved : goal.loop-at-preserved
loop-at-preserved g c =
    let state = state_by g.R.Remote.files g.R.Remote.faults g.A.Area.contents g.A.Area.faults g.A.Area.pieces g.G.Gate.answers g.G.Gate.faults in
    let test = c.loop-at-test.true in
    let low : c.loop-at.at < length c.loop-at.hands = grind (arith, nat_tests, test) in
    next_swept state c.loop-at.at c.args.hands.now c.loop-at.hands c.sweep_hand.new.hand c.index-hands-at.result c.loop-at.invariant low c.in-Ok.ensures.ok
