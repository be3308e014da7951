use Rattle.std.proofs.Common.{Ok, refl}
use Rattle.crew_turns.specs.Hands.{state_by}
use Rattle.call_plan.specs.Seen.{after_by, seen_by}
use Rattle.mvn_call.proofs.Whole.{all_stay, none_done}
use Rattle.mvn_call.proofs.build.build_line.Goals as goal

pub returns-in-Err-clause-calls : goal.returns-in-Err-clause-calls
returns-in-Err-clause-calls g c =
    let call = c.nothing in
    none_done call.result c.args.devices (λ d. after_by g.O.Tree.Files.faults g.O.Shelf.Shelf.told g.O.Shelf.Shelf.faults (state_by g.O.Remote.Remote.files g.O.Remote.Remote.faults g.O.Area.Area.contents g.O.Area.Area.faults g.O.Area.Area.pieces g.O.Gate.Gate.answers g.O.Gate.Gate.faults) d.tree d.shelf d.hands.items) (Ok c.args.line.now) (seen_by g.O.Tree.Tree.files g.O.Tree.Files.faults g.O.Shelf.Shelf.told g.O.Shelf.Shelf.faults (state_by g.O.Remote.Remote.files g.O.Remote.Remote.faults g.O.Area.Area.contents g.O.Area.Area.faults g.O.Area.Area.pieces g.O.Gate.Gate.answers g.O.Gate.Gate.faults) c.args.devices.tree c.args.devices.shelf c.args.devices.hands.items c.args.machine) refl refl call.ensures.devices call.ensures.trace call.ensures.answers c.in-Err.error call.ensures.outcome

pub returns-in-Err-clause-hands : goal.returns-in-Err-clause-hands
returns-in-Err-clause-hands g c = all_stay c.nothing.result.devices c.args.devices (λ d. d.hands.items) (Ok c.args.line.now) c.nothing.ensures.devices
