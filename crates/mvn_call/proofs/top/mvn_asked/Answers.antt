use Rattle.crew_turns.specs.Hands.{state_by}
use Rattle.call_plan.specs.Seen.{Seen, after_by, seen_by}
use Rattle.mvn_call.specs.Promises.{Written, written_by}
use Rattle.mvn_call.proofs.Whole.{ended_mvn, some_said, stay_of}
use Rattle.mvn_call.proofs.top.mvn_asked.Goals as goal

pub write-requires : goal.write-requires
write-requires g c =
    let some = some_said c.args.answer in
    record { status = (c.run-call.ensures.calls some.0 some.1).bound }

pub returns-clause-call : goal.returns-clause-call
returns-clause-call g c = λ said says.
    let seen : Seen = seen_by g.O.Tree.Tree.files g.O.Tree.Files.faults g.O.Shelf.Shelf.told g.O.Shelf.Shelf.faults (state_by g.O.Remote.Remote.files g.O.Remote.Remote.faults g.O.Area.Area.contents g.O.Area.Area.faults g.O.Area.Area.pieces g.O.Gate.Gate.answers g.O.Gate.Gate.faults) c.args.devices.tree c.args.devices.shelf c.args.devices.hands.items c.args.machine in
    let call = c.run-call in
    let wrote = c.write in
    let out : Written = written_by g.P.Sink.written g.P.Sink.faults wrote.result.status c.args.out.now wrote.new.out in
    ended_mvn call.result wrote.result (λ d. after_by g.O.Tree.Files.faults g.O.Shelf.Shelf.told g.O.Shelf.Shelf.faults (state_by g.O.Remote.Remote.files g.O.Remote.Remote.faults g.O.Area.Area.contents g.O.Area.Area.faults g.O.Area.Area.pieces g.O.Gate.Gate.answers g.O.Gate.Gate.faults) d.tree d.shelf d.hands.items) said seen out wrote.ensures.devices wrote.ensures.trace wrote.ensures.answers (call.ensures.calls said says) wrote.ensures.writes

pub returns-clause-hands : goal.returns-clause-hands
returns-clause-hands g c = λ said says.
    stay_of c.write.result.devices c.run-call.result.devices (λ d. d.hands.items) said c.args.devices.hands.items c.write.ensures.devices (c.run-call.ensures.hands said says)
