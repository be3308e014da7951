use Rattle.std.proofs.Common.{Ok, refl}
use Rattle.crew_turns.specs.Hands.{state_by}
use Rattle.call_plan.specs.Seen.{Seen, after_by, seen_by}
use Rattle.mvn_call.specs.Promises.{Written, written_by}
use Rattle.mvn_call.proofs.Whole.{all_stay}
use Rattle.generated.proofs.Calls.{line_generated, line_mvn}
use Rattle.generated.proofs.words.run_line.Goals as goal

pub returns-in-Some-clause-call : goal.returns-in-Some-clause-call
returns-in-Some-clause-call g c =
    let seen : Seen = seen_by g.O.Tree.Tree.files g.O.Tree.Files.faults g.O.Shelf.Shelf.told g.O.Shelf.Shelf.faults (state_by g.O.Remote.Remote.files g.O.Remote.Remote.faults g.O.Area.Area.contents g.O.Area.Area.faults g.O.Area.Area.pieces g.O.Gate.Gate.answers g.O.Gate.Gate.faults) c.args.devices.tree c.args.devices.shelf c.args.devices.hands.items c.args.machine in
    let call = c.write_generated in
    let out : Written = written_by g.P.Sink.written g.P.Sink.faults call.result.status c.args.out.now call.new.out in
    line_generated call.result.devices c.args.devices (λ d. after_by g.O.Tree.Files.faults g.O.Shelf.Shelf.told g.O.Shelf.Shelf.faults (state_by g.O.Remote.Remote.files g.O.Remote.Remote.faults g.O.Area.Area.contents g.O.Area.Area.faults g.O.Area.Area.pieces g.O.Gate.Gate.answers g.O.Gate.Gate.faults) d.tree d.shelf d.hands.items) c.args.line c.in-Some.poms seen call.result.trace call.result.answers out c.in-Some.is call.ensures.devices
    (call.ensures.call seen (after_by g.O.Tree.Files.faults g.O.Shelf.Shelf.told g.O.Shelf.Shelf.faults (state_by g.O.Remote.Remote.files g.O.Remote.Remote.faults g.O.Area.Area.contents g.O.Area.Area.faults g.O.Area.Area.pieces g.O.Gate.Gate.answers g.O.Gate.Gate.faults) c.args.devices.tree c.args.devices.shelf c.args.devices.hands.items) refl refl refl)

pub returns-in-Some-clause-hands : goal.returns-in-Some-clause-hands
returns-in-Some-clause-hands g c = all_stay c.write_generated.result.devices c.args.devices (λ d. d.hands.items) (Ok c.args.line) c.write_generated.ensures.devices

pub returns-in-None-clause-call : goal.returns-in-None-clause-call
returns-in-None-clause-call g c =
    let seen : Seen = seen_by g.O.Tree.Tree.files g.O.Tree.Files.faults g.O.Shelf.Shelf.told g.O.Shelf.Shelf.faults (state_by g.O.Remote.Remote.files g.O.Remote.Remote.faults g.O.Area.Area.contents g.O.Area.Area.faults g.O.Area.Area.pieces g.O.Gate.Gate.answers g.O.Gate.Gate.faults) c.args.devices.tree c.args.devices.shelf c.args.devices.hands.items c.args.machine in
    let call = c.mvn_asked in
    let out : Written = written_by g.P.Sink.written g.P.Sink.faults call.result.status c.args.out.now call.new.out in
    line_mvn c.args.line seen (after_by g.O.Tree.Files.faults g.O.Shelf.Shelf.told g.O.Shelf.Shelf.faults (state_by g.O.Remote.Remote.files g.O.Remote.Remote.faults g.O.Area.Area.contents g.O.Area.Area.faults g.O.Area.Area.pieces g.O.Gate.Gate.answers g.O.Gate.Gate.faults) call.result.devices.tree call.result.devices.shelf call.result.devices.hands.items) call.result.trace call.result.answers out c.in-None.is (call.ensures.call (Ok c.args.line) refl)

pub returns-in-None-clause-hands : goal.returns-in-None-clause-hands
returns-in-None-clause-hands g c = c.mvn_asked.ensures.hands (Ok c.args.line) refl
