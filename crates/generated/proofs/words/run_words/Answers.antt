use Rattle.std.proofs.Common.{◌∙◌, length, refl, subst, sym, Result, Ok, Err}
use Rattle.mvn_shared.specs.declared.memory.OutOfMemory.{OutOfMemory}
use Rattle.cli_words.specs.Options.{options}
use Rattle.cli_words.specs.declared.command_line.CommandLine.{CommandLine}
use Rattle.crew_turns.specs.Hands.{state_by}
use Rattle.build_outcome.specs.declared.outcome.Outcome.{Outcome}
use Rattle.call_plan.specs.Commands.{asked}
use Rattle.call_plan.specs.Seen.{After, OthersStay, Seen, after_by, seen_by}
use Rattle.mvn_call.specs.Promises.{Written, written_by}
use Rattle.mvn_call.proofs.Statuses.{words_status}
use Rattle.generated.specs.Whole.{IsWordsCall}
use Rattle.generated.proofs.Calls.{asked_of, words_none}
use Rattle.generated.proofs.words.run_words.Goals as goal

pub mvn_asked-requires-clause-words : goal.mvn_asked-requires-clause-words
mvn_asked-requires-clause-words g c κs within = words_status (options c.args.words.now c.len.result) c.in-Ok-Err.outcome (sym (sym c.in-Ok-Err.field-0-is ∙ c.in-Ok-Err.ensures.says))

pub returns-in-Ok-Ok-clause-call : goal.returns-in-Ok-Ok-clause-call
returns-in-Ok-Ok-clause-call g c =
    let seen : Seen = seen_by g.O.Tree.Tree.files g.O.Tree.Files.faults g.O.Shelf.Shelf.told g.O.Shelf.Shelf.faults (state_by g.O.Remote.Remote.files g.O.Remote.Remote.faults g.O.Area.Area.contents g.O.Area.Area.faults g.O.Area.Area.pieces g.O.Gate.Gate.answers g.O.Gate.Gate.faults) c.args.devices.tree c.args.devices.shelf c.args.devices.hands.items c.args.machine in
    let call = c.run_line in
    let after : After = after_by g.O.Tree.Files.faults g.O.Shelf.Shelf.told g.O.Shelf.Shelf.faults (state_by g.O.Remote.Remote.files g.O.Remote.Remote.faults g.O.Area.Area.contents g.O.Area.Area.faults g.O.Area.Area.pieces g.O.Gate.Gate.answers g.O.Gate.Gate.faults) call.result.devices.tree call.result.devices.shelf call.result.devices.hands.items in
    let out : Written = written_by g.P.Sink.written g.P.Sink.faults call.result.status c.args.out.now call.new.out in
    subst (λ (s : Result CommandLine Outcome). IsWordsCall s seen after call.result.trace call.result.answers out) (asked_of (Ok c.in-Ok-Ok.line) c.args.words.now c.len.result (length c.args.devices.hands.items) (c.len.ensures ∙ c.args.devices.hands.ok.0) (sym c.in-Ok-Ok.field-0-is ∙ c.in-Ok-Ok.ensures.says)) call.ensures.call

pub returns-in-Ok-Ok-clause-hands : goal.returns-in-Ok-Ok-clause-hands
returns-in-Ok-Ok-clause-hands g c =
    subst (λ (s : Result CommandLine Outcome). OthersStay s c.args.devices.hands.items c.run_line.result.devices.hands.items) (asked_of (Ok c.in-Ok-Ok.line) c.args.words.now c.len.result (length c.args.devices.hands.items) (c.len.ensures ∙ c.args.devices.hands.ok.0) (sym c.in-Ok-Ok.field-0-is ∙ c.in-Ok-Ok.ensures.says)) c.run_line.ensures.hands

pub returns-in-Ok-Err-clause-call : goal.returns-in-Ok-Err-clause-call
returns-in-Ok-Err-clause-call g c =
    let seen : Seen = seen_by g.O.Tree.Tree.files g.O.Tree.Files.faults g.O.Shelf.Shelf.told g.O.Shelf.Shelf.faults (state_by g.O.Remote.Remote.files g.O.Remote.Remote.faults g.O.Area.Area.contents g.O.Area.Area.faults g.O.Area.Area.pieces g.O.Gate.Gate.answers g.O.Gate.Gate.faults) c.args.devices.tree c.args.devices.shelf c.args.devices.hands.items c.args.machine in
    let call = c.mvn_asked in
    let after : After = after_by g.O.Tree.Files.faults g.O.Shelf.Shelf.told g.O.Shelf.Shelf.faults (state_by g.O.Remote.Remote.files g.O.Remote.Remote.faults g.O.Area.Area.contents g.O.Area.Area.faults g.O.Area.Area.pieces g.O.Gate.Gate.answers g.O.Gate.Gate.faults) call.result.devices.tree call.result.devices.shelf call.result.devices.hands.items in
    let out : Written = written_by g.P.Sink.written g.P.Sink.faults call.result.status c.args.out.now call.new.out in
    subst (λ (s : Result CommandLine Outcome). IsWordsCall s seen after call.result.trace call.result.answers out) (asked_of (Err c.in-Ok-Err.outcome) c.args.words.now c.len.result (length c.args.devices.hands.items) (c.len.ensures ∙ c.args.devices.hands.ok.0) (sym c.in-Ok-Err.field-0-is ∙ c.in-Ok-Err.ensures.says)) (call.ensures.call (Err c.in-Ok-Err.outcome) refl)

pub returns-in-Ok-Err-clause-hands : goal.returns-in-Ok-Err-clause-hands
returns-in-Ok-Err-clause-hands g c = c.mvn_asked.ensures.hands (asked c.args.words.now (length c.args.devices.hands.items)) (asked_of (Err c.in-Ok-Err.outcome) c.args.words.now c.len.result (length c.args.devices.hands.items) (c.len.ensures ∙ c.args.devices.hands.ok.0) (sym c.in-Ok-Err.field-0-is ∙ c.in-Ok-Err.ensures.says))

pub returns-in-Err-clause-call : goal.returns-in-Err-clause-call
returns-in-Err-clause-call g c =
    let seen : Seen = seen_by g.O.Tree.Tree.files g.O.Tree.Files.faults g.O.Shelf.Shelf.told g.O.Shelf.Shelf.faults (state_by g.O.Remote.Remote.files g.O.Remote.Remote.faults g.O.Area.Area.contents g.O.Area.Area.faults g.O.Area.Area.pieces g.O.Gate.Gate.answers g.O.Gate.Gate.faults) c.args.devices.tree c.args.devices.shelf c.args.devices.hands.items c.args.machine in
    let after : After = after_by g.O.Tree.Files.faults g.O.Shelf.Shelf.told g.O.Shelf.Shelf.faults (state_by g.O.Remote.Remote.files g.O.Remote.Remote.faults g.O.Area.Area.contents g.O.Area.Area.faults g.O.Area.Area.pieces g.O.Gate.Gate.answers g.O.Gate.Gate.faults) c.args.devices.tree c.args.devices.shelf c.args.devices.hands.items in
    let out : Written = written_by g.P.Sink.written g.P.Sink.faults 4 c.args.out.now c.args.out.now in
    words_none seen after c.new.result c.new-in-Err.result out c.new.ensures c.new-in-Err.ensures refl refl refl refl c.in-Err.field-0 (asked c.args.words.now (length c.args.devices.hands.items))
