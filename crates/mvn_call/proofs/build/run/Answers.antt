use Rattle.std.proofs.Common.{◌≡◌, ◌∙◌, ap, refl, sym, subst, Result, Ok, Err, IfErr, IfOk}
use Rattle.mvn_shared.specs.declared.memory.OutOfMemory.{OutOfMemory}
use Rattle.cli_words.specs.declared.command_line.CommandLine.{CommandLine}
use Rattle.crew_turns.specs.Hands.{state_by}
use Rattle.build_outcome.specs.declared.outcome.Outcome.{Outcome}
use Rattle.call_plan.specs.Seen.{After, OthersStay, Seen, after_by, seen_by}
use Rattle.mvn_call.specs.Calls.{Calls}
use Rattle.mvn_call.proofs.Whole.{all_stay, none_done, refused_done, said_is}
use Rattle.mvn_call.proofs.build.run.Goals as goal

pub returns-in-Ok-Ok-clause-calls : goal.returns-in-Ok-Ok-clause-calls
returns-in-Ok-Ok-clause-calls g c = λ said says.
    let e : c.args.answer ≡ Ok (Ok c.in-Ok-Ok.line) = c.in-Ok-Ok.is ∙ ap (λ (r : Result CommandLine Outcome). Ok r) c.in-Ok-Ok.field-0-is in
    let seen : Seen = seen_by g.O.Tree.Tree.files g.O.Tree.Files.faults g.O.Shelf.Shelf.told g.O.Shelf.Shelf.faults (state_by g.O.Remote.Remote.files g.O.Remote.Remote.faults g.O.Area.Area.contents g.O.Area.Area.faults g.O.Area.Area.pieces g.O.Gate.Gate.answers g.O.Gate.Gate.faults) c.args.devices.tree c.args.devices.shelf c.args.devices.hands.items c.args.machine in
    let call = c.build_line in
    let after : After = after_by g.O.Tree.Files.faults g.O.Shelf.Shelf.told g.O.Shelf.Shelf.faults (state_by g.O.Remote.Remote.files g.O.Remote.Remote.faults g.O.Area.Area.contents g.O.Area.Area.faults g.O.Area.Area.pieces g.O.Gate.Gate.answers g.O.Gate.Gate.faults) call.result.devices.tree call.result.devices.shelf call.result.devices.hands.items in
    subst (λ (s : Result CommandLine Outcome). Calls s seen after call.result.trace call.result.answers call.result.outcome) (said_is c.args.answer (Ok c.in-Ok-Ok.line) said e says) call.ensures.calls

pub returns-in-Ok-Ok-clause-hands : goal.returns-in-Ok-Ok-clause-hands
returns-in-Ok-Ok-clause-hands g c = λ said says.
    let e : c.args.answer ≡ Ok (Ok c.in-Ok-Ok.line) = c.in-Ok-Ok.is ∙ ap (λ (r : Result CommandLine Outcome). Ok r) c.in-Ok-Ok.field-0-is in
    subst (λ (s : Result CommandLine Outcome). OthersStay s c.args.devices.hands.items c.build_line.result.devices.hands.items) (said_is c.args.answer (Ok c.in-Ok-Ok.line) said e says) c.build_line.ensures.hands

pub returns-in-Ok-Err-clause-calls : goal.returns-in-Ok-Err-clause-calls
returns-in-Ok-Err-clause-calls g c = λ said says.
    let e : c.args.answer ≡ Ok (Err c.in-Ok-Err.outcome) = c.in-Ok-Err.is ∙ ap (λ (r : Result CommandLine Outcome). Ok r) c.in-Ok-Err.field-0-is in
    let call = c.unbuilt in
    refused_done call.result c.args.devices (λ d. after_by g.O.Tree.Files.faults g.O.Shelf.Shelf.told g.O.Shelf.Shelf.faults (state_by g.O.Remote.Remote.files g.O.Remote.Remote.faults g.O.Area.Area.contents g.O.Area.Area.faults g.O.Area.Area.pieces g.O.Gate.Gate.answers g.O.Gate.Gate.faults) d.tree d.shelf d.hands.items) said (seen_by g.O.Tree.Tree.files g.O.Tree.Files.faults g.O.Shelf.Shelf.told g.O.Shelf.Shelf.faults (state_by g.O.Remote.Remote.files g.O.Remote.Remote.faults g.O.Area.Area.contents g.O.Area.Area.faults g.O.Area.Area.pieces g.O.Gate.Gate.answers g.O.Gate.Gate.faults) c.args.devices.tree c.args.devices.shelf c.args.devices.hands.items c.args.machine) refl refl call.ensures.devices call.ensures.trace call.ensures.answers
    c.in-Ok-Err.outcome call.ensures.outcome (sym (said_is c.args.answer (Err c.in-Ok-Err.outcome) said e says))
    (subst (λ (r : Result (Result CommandLine Outcome) OutOfMemory). IfOk r (λ a. IfErr a (λ (outcome : Outcome). outcome.status ≡ 2))) e c.requires.words)

pub returns-in-Ok-Err-clause-hands : goal.returns-in-Ok-Err-clause-hands
returns-in-Ok-Err-clause-hands g c = λ said says. all_stay c.unbuilt.result.devices c.args.devices (λ d. d.hands.items) said c.unbuilt.ensures.devices

pub returns-in-Err-clause-calls : goal.returns-in-Err-clause-calls
returns-in-Err-clause-calls g c = λ said says.
    let call = c.unbuilt-in-Err in
    none_done call.result c.args.devices (λ d. after_by g.O.Tree.Files.faults g.O.Shelf.Shelf.told g.O.Shelf.Shelf.faults (state_by g.O.Remote.Remote.files g.O.Remote.Remote.faults g.O.Area.Area.contents g.O.Area.Area.faults g.O.Area.Area.pieces g.O.Gate.Gate.answers g.O.Gate.Gate.faults) d.tree d.shelf d.hands.items) said (seen_by g.O.Tree.Tree.files g.O.Tree.Files.faults g.O.Shelf.Shelf.told g.O.Shelf.Shelf.faults (state_by g.O.Remote.Remote.files g.O.Remote.Remote.faults g.O.Area.Area.contents g.O.Area.Area.faults g.O.Area.Area.pieces g.O.Gate.Gate.answers g.O.Gate.Gate.faults) c.args.devices.tree c.args.devices.shelf c.args.devices.hands.items c.args.machine) refl refl call.ensures.devices call.ensures.trace call.ensures.answers c.in-Err.error call.ensures.outcome

pub returns-in-Err-clause-hands : goal.returns-in-Err-clause-hands
returns-in-Err-clause-hands g c = λ said says. all_stay c.unbuilt-in-Err.result.devices c.args.devices (λ d. d.hands.items) said c.unbuilt-in-Err.ensures.devices
