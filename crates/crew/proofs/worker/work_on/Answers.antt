use Rattle.std.proofs.Common.{◌∙◌}
use Rattle.crew_turns.specs.Hands.{state_by}
use Rattle.crew.proofs.Works.{at_first}
use Rattle.crew.proofs.worker.work_on.Goals as goal

pub loop-init : goal.loop-init
loop-init g c = at_first c.args.plan.now c.args.lock.now c.args.worker c.args.pass.now (state_by g.R.Remote.files g.R.Remote.faults g.S.Area.Area.contents g.S.Area.Area.faults g.S.Area.Area.pieces g.G.Gate.answers g.G.Gate.faults c.args.hand.now) c.requires.of c.requires.clear c.requires.own

pub loop-preserved : goal.loop-preserved
loop-preserved g c = c.go_on.ensures.between c.args.pass.now (state_by g.R.Remote.files g.R.Remote.faults g.S.Area.Area.contents g.S.Area.Area.faults g.S.Area.Area.pieces g.G.Gate.answers g.G.Gate.faults c.args.hand.now) c.loop.invariant

pub returns-then-go_on : goal.returns-then-go_on
returns-then-go_on g c =
    let is = c.go_on.ensures.between c.args.pass.now (state_by g.R.Remote.files g.R.Remote.faults g.S.Area.Area.contents g.S.Area.Area.faults g.S.Area.Area.pieces g.G.Gate.answers g.G.Gate.faults c.args.hand.now) c.loop.invariant in
    record { of = is.of; clear = is.of.owes ∙ is.idle; follows = is.follows; complete = c.go_on.ensures.done c.if-go_on.true; own = is.own; worked = is.worked }
