use Rattle.std.proofs.Common.{◌≡◌, ◌≤◌, ◌∙◌, ℕ, List, ap, drop, length, map, refl, sym, subst, Result, Ok, Err, IfOk, arith}
use Rattle.std.proofs.lemmas.List.{length-map}
use Rattle.mvn_shared.specs.declared.memory.OutOfMemory.{OutOfMemory}
use Rattle.module_plan.specs.declared.selected.Planned.{Planned}
use Rattle.crew_turns.specs.Hands.{state_by}
use Rattle.build_outcome.specs.declared.outcome.Outcome.{Outcome}
use Rattle.build_outcome.specs.Left.{Outside}
use Rattle.call_plan.specs.Project.{GivesPlan}
use Rattle.call_plan.specs.Seen.{After, Seen, after_by, first_remote, seen_by}
use Rattle.mvn_call.proofs.Building.{at_least, built_few, built_names, built_present, built_sound, built_workers, calls_built, calls_unbuilt, others_built, others_planned}
use Rattle.mvn_call.proofs.Calling.{calls_none}
use Rattle.mvn_call.proofs.First.{asked_tells, drop_images}
use Rattle.mvn_call.proofs.Whole.{of_same, stay_of}
use Rattle.mvn_call.proofs.build.build_given.Goals as goal

pub plan_by_first-planning-requires-clause-workers : goal.plan_by_first-planning-requires-clause-workers
plan_by_first-planning-requires-clause-workers g c κs within = (c.requires.workers.0, omega (arith, c.requires.workers.1, c.requires.hands))

pub plan_by_first-planning-requires-clause-some : goal.plan_by_first-planning-requires-clause-some
plan_by_first-planning-requires-clause-some g c κs within = at_least c.args.line.now.workers (length c.args.devices.hands.items) c.requires.workers.0 c.requires.workers.1

pub build_by_first-requires-clause-sound : goal.build_by_first-requires-clause-sound
build_by_first-requires-clause-sound g c κs within =
    let seen : Seen = seen_by g.O.Tree.Tree.files g.O.Tree.Files.faults g.O.Shelf.Shelf.told g.O.Shelf.Shelf.faults (state_by g.O.Remote.Remote.files g.O.Remote.Remote.faults g.O.Area.Area.contents g.O.Area.Area.faults g.O.Area.Area.pieces g.O.Gate.Gate.answers g.O.Gate.Gate.faults) c.args.devices.tree c.args.devices.shelf c.args.devices.hands.items c.args.given.now.machine in
    let planning = c.plan_by_first-planning in
    let line = c.args.line.now in
    let e : planning.result.answer ≡ Ok (Ok c.in-Ok-Ok.planned) = c.in-Ok-Ok.is ∙ ap (λ (r : Result Planned Outcome). Ok r) c.in-Ok-Ok.field-0-is in
    let gives : GivesPlan seen.tree seen.outside.shelf (first_remote seen.outside) c.args.given.now line planning.result.failed (Ok c.in-Ok-Ok.planned) =
    subst (λ (r : Result (Result Planned Outcome) OutOfMemory). IfOk r (GivesPlan seen.tree seen.outside.shelf (first_remote seen.outside) c.args.given.now line planning.result.failed)) e planning.ensures.gives in
    built_sound line c.args.given.now seen c.requires.workers.0 (subst (λ (n : ℕ). 1 ≤ n) (sym (length-map c.args.devices.hands.items (state_by g.O.Remote.Remote.files g.O.Remote.Remote.faults g.O.Area.Area.contents g.O.Area.Area.faults g.O.Area.Area.pieces g.O.Gate.Gate.answers g.O.Gate.Gate.faults))) (at_least line.workers (length c.args.devices.hands.items) c.requires.workers.0 c.requires.workers.1)) c.requires.given c.in-Ok-Ok.planned planning.result.failed gives

pub build_by_first-requires-clause-few : goal.build_by_first-requires-clause-few
build_by_first-requires-clause-few g c κs within =
    let seen : Seen = seen_by g.O.Tree.Tree.files g.O.Tree.Files.faults g.O.Shelf.Shelf.told g.O.Shelf.Shelf.faults (state_by g.O.Remote.Remote.files g.O.Remote.Remote.faults g.O.Area.Area.contents g.O.Area.Area.faults g.O.Area.Area.pieces g.O.Gate.Gate.answers g.O.Gate.Gate.faults) c.args.devices.tree c.args.devices.shelf c.args.devices.hands.items c.args.given.now.machine in
    let planning = c.plan_by_first-planning in
    let line = c.args.line.now in
    let e : planning.result.answer ≡ Ok (Ok c.in-Ok-Ok.planned) = c.in-Ok-Ok.is ∙ ap (λ (r : Result Planned Outcome). Ok r) c.in-Ok-Ok.field-0-is in
    let gives : GivesPlan seen.tree seen.outside.shelf (first_remote seen.outside) c.args.given.now line planning.result.failed (Ok c.in-Ok-Ok.planned) =
    subst (λ (r : Result (Result Planned Outcome) OutOfMemory). IfOk r (GivesPlan seen.tree seen.outside.shelf (first_remote seen.outside) c.args.given.now line planning.result.failed)) e planning.ensures.gives in
    built_few line c.args.given.now seen c.requires.workers.0 (subst (λ (n : ℕ). 1 ≤ n) (sym (length-map c.args.devices.hands.items (state_by g.O.Remote.Remote.files g.O.Remote.Remote.faults g.O.Area.Area.contents g.O.Area.Area.faults g.O.Area.Area.pieces g.O.Gate.Gate.answers g.O.Gate.Gate.faults))) (at_least line.workers (length c.args.devices.hands.items) c.requires.workers.0 c.requires.workers.1)) c.requires.given c.in-Ok-Ok.planned planning.result.failed gives

pub build_by_first-requires-clause-names : goal.build_by_first-requires-clause-names
build_by_first-requires-clause-names g c κs within =
    let seen : Seen = seen_by g.O.Tree.Tree.files g.O.Tree.Files.faults g.O.Shelf.Shelf.told g.O.Shelf.Shelf.faults (state_by g.O.Remote.Remote.files g.O.Remote.Remote.faults g.O.Area.Area.contents g.O.Area.Area.faults g.O.Area.Area.pieces g.O.Gate.Gate.answers g.O.Gate.Gate.faults) c.args.devices.tree c.args.devices.shelf c.args.devices.hands.items c.args.given.now.machine in
    let planning = c.plan_by_first-planning in
    let line = c.args.line.now in
    let e : planning.result.answer ≡ Ok (Ok c.in-Ok-Ok.planned) = c.in-Ok-Ok.is ∙ ap (λ (r : Result Planned Outcome). Ok r) c.in-Ok-Ok.field-0-is in
    let gives : GivesPlan seen.tree seen.outside.shelf (first_remote seen.outside) c.args.given.now line planning.result.failed (Ok c.in-Ok-Ok.planned) =
    subst (λ (r : Result (Result Planned Outcome) OutOfMemory). IfOk r (GivesPlan seen.tree seen.outside.shelf (first_remote seen.outside) c.args.given.now line planning.result.failed)) e planning.ensures.gives in
    built_names line c.args.given.now seen c.requires.workers.0 (subst (λ (n : ℕ). 1 ≤ n) (sym (length-map c.args.devices.hands.items (state_by g.O.Remote.Remote.files g.O.Remote.Remote.faults g.O.Area.Area.contents g.O.Area.Area.faults g.O.Area.Area.pieces g.O.Gate.Gate.answers g.O.Gate.Gate.faults))) (at_least line.workers (length c.args.devices.hands.items) c.requires.workers.0 c.requires.workers.1)) c.requires.given c.in-Ok-Ok.planned planning.result.failed gives

pub build_by_first-requires-clause-enough : goal.build_by_first-requires-clause-enough
build_by_first-requires-clause-enough g c =
    let seen : Seen = seen_by g.O.Tree.Tree.files g.O.Tree.Files.faults g.O.Shelf.Shelf.told g.O.Shelf.Shelf.faults (state_by g.O.Remote.Remote.files g.O.Remote.Remote.faults g.O.Area.Area.contents g.O.Area.Area.faults g.O.Area.Area.pieces g.O.Gate.Gate.answers g.O.Gate.Gate.faults) c.args.devices.tree c.args.devices.shelf c.args.devices.hands.items c.args.given.now.machine in
    let planning = c.plan_by_first-planning in
    let line = c.args.line.now in
    let e : planning.result.answer ≡ Ok (Ok c.in-Ok-Ok.planned) = c.in-Ok-Ok.is ∙ ap (λ (r : Result Planned Outcome). Ok r) c.in-Ok-Ok.field-0-is in
    let gives : GivesPlan seen.tree seen.outside.shelf (first_remote seen.outside) c.args.given.now line planning.result.failed (Ok c.in-Ok-Ok.planned) =
    subst (λ (r : Result (Result Planned Outcome) OutOfMemory). IfOk r (GivesPlan seen.tree seen.outside.shelf (first_remote seen.outside) c.args.given.now line planning.result.failed)) e planning.ensures.gives in
    let is = built_workers line c.args.given.now seen c.requires.workers.0 (subst (λ (n : ℕ). 1 ≤ n) (sym (length-map c.args.devices.hands.items (state_by g.O.Remote.Remote.files g.O.Remote.Remote.faults g.O.Area.Area.contents g.O.Area.Area.faults g.O.Area.Area.pieces g.O.Gate.Gate.answers g.O.Gate.Gate.faults))) (at_least line.workers (length c.args.devices.hands.items) c.requires.workers.0 c.requires.workers.1)) c.requires.given c.in-Ok-Ok.planned planning.result.failed gives in
    let many = planning.ensures.many in
    omega (arith, is, many, c.requires.workers.1)

pub build_by_first-requires-clause-present : goal.build_by_first-requires-clause-present
build_by_first-requires-clause-present g c κs within =
    let seen : Seen = seen_by g.O.Tree.Tree.files g.O.Tree.Files.faults g.O.Shelf.Shelf.told g.O.Shelf.Shelf.faults (state_by g.O.Remote.Remote.files g.O.Remote.Remote.faults g.O.Area.Area.contents g.O.Area.Area.faults g.O.Area.Area.pieces g.O.Gate.Gate.answers g.O.Gate.Gate.faults) c.args.devices.tree c.args.devices.shelf c.args.devices.hands.items c.args.given.now.machine in
    let planning = c.plan_by_first-planning in
    let line = c.args.line.now in
    let e : planning.result.answer ≡ Ok (Ok c.in-Ok-Ok.planned) = c.in-Ok-Ok.is ∙ ap (λ (r : Result Planned Outcome). Ok r) c.in-Ok-Ok.field-0-is in
    let gives : GivesPlan seen.tree seen.outside.shelf (first_remote seen.outside) c.args.given.now line planning.result.failed (Ok c.in-Ok-Ok.planned) =
    subst (λ (r : Result (Result Planned Outcome) OutOfMemory). IfOk r (GivesPlan seen.tree seen.outside.shelf (first_remote seen.outside) c.args.given.now line planning.result.failed)) e planning.ensures.gives in
    built_present line c.args.given.now seen c.requires.workers.0 (subst (λ (n : ℕ). 1 ≤ n) (sym (length-map c.args.devices.hands.items (state_by g.O.Remote.Remote.files g.O.Remote.Remote.faults g.O.Area.Area.contents g.O.Area.Area.faults g.O.Area.Area.pieces g.O.Gate.Gate.answers g.O.Gate.Gate.faults))) (at_least line.workers (length c.args.devices.hands.items) c.requires.workers.0 c.requires.workers.1)) c.requires.given c.in-Ok-Ok.planned planning.result.failed gives (g.O.Shelf.Shelf.told planning.new.devices.shelf) planning.ensures.asks.shelf

pub returns-in-Ok-Ok-clause-calls : goal.returns-in-Ok-Ok-clause-calls
returns-in-Ok-Ok-clause-calls g c =
    let seen : Seen = seen_by g.O.Tree.Tree.files g.O.Tree.Files.faults g.O.Shelf.Shelf.told g.O.Shelf.Shelf.faults (state_by g.O.Remote.Remote.files g.O.Remote.Remote.faults g.O.Area.Area.contents g.O.Area.Area.faults g.O.Area.Area.pieces g.O.Gate.Gate.answers g.O.Gate.Gate.faults) c.args.devices.tree c.args.devices.shelf c.args.devices.hands.items c.args.given.now.machine in
    let planning = c.plan_by_first-planning in
    let line = c.args.line.now in
    let e : planning.result.answer ≡ Ok (Ok c.in-Ok-Ok.planned) = c.in-Ok-Ok.is ∙ ap (λ (r : Result Planned Outcome). Ok r) c.in-Ok-Ok.field-0-is in
    let gives : GivesPlan seen.tree seen.outside.shelf (first_remote seen.outside) c.args.given.now line planning.result.failed (Ok c.in-Ok-Ok.planned) =
    subst (λ (r : Result (Result Planned Outcome) OutOfMemory). IfOk r (GivesPlan seen.tree seen.outside.shelf (first_remote seen.outside) c.args.given.now line planning.result.failed)) e planning.ensures.gives in
    let built = c.build_by_first in
    let middle : Outside = (after_by g.O.Tree.Files.faults g.O.Shelf.Shelf.told g.O.Shelf.Shelf.faults (state_by g.O.Remote.Remote.files g.O.Remote.Remote.faults g.O.Area.Area.contents g.O.Area.Area.faults g.O.Area.Area.pieces g.O.Gate.Gate.answers g.O.Gate.Gate.faults) planning.new.devices.tree planning.new.devices.shelf planning.new.devices.hands.items).outside in
    let after : After = after_by g.O.Tree.Files.faults g.O.Shelf.Shelf.told g.O.Shelf.Shelf.faults (state_by g.O.Remote.Remote.files g.O.Remote.Remote.faults g.O.Area.Area.contents g.O.Area.Area.faults g.O.Area.Area.pieces g.O.Gate.Gate.answers g.O.Gate.Gate.faults) built.result.devices.tree built.result.devices.shelf built.result.devices.hands.items in
    calls_built line c.args.given.now seen c.requires.workers.0 (subst (λ (n : ℕ). 1 ≤ n) (sym (length-map c.args.devices.hands.items (state_by g.O.Remote.Remote.files g.O.Remote.Remote.faults g.O.Area.Area.contents g.O.Area.Area.faults g.O.Area.Area.pieces g.O.Gate.Gate.answers g.O.Gate.Gate.faults))) (at_least line.workers (length c.args.devices.hands.items) c.requires.workers.0 c.requires.workers.1)) c.requires.given c.in-Ok-Ok.planned planning.result.failed gives after built.result.trace built.result.answers built.result.outcome middle (g.O.Tree.Files.faults planning.new.devices.tree)
    planning.ensures.asks.counted planning.ensures.asks.asked (length-map planning.new.devices.hands.items (state_by g.O.Remote.Remote.files g.O.Remote.Remote.faults g.O.Area.Area.contents g.O.Area.Area.faults g.O.Area.Area.pieces g.O.Gate.Gate.answers g.O.Gate.Gate.faults) ∙ planning.ensures.many ∙ sym (length-map c.args.devices.hands.items (state_by g.O.Remote.Remote.files g.O.Remote.Remote.faults g.O.Area.Area.contents g.O.Area.Area.faults g.O.Area.Area.pieces g.O.Gate.Gate.answers g.O.Gate.Gate.faults))) planning.ensures.asks.shelf (ap g.O.Tree.Files.faults built.ensures.tree)
    (length-map built.result.devices.hands.items (state_by g.O.Remote.Remote.files g.O.Remote.Remote.faults g.O.Area.Area.contents g.O.Area.Area.faults g.O.Area.Area.pieces g.O.Gate.Gate.answers g.O.Gate.Gate.faults) ∙ built.ensures.many ∙ sym (length-map planning.new.devices.hands.items (state_by g.O.Remote.Remote.files g.O.Remote.Remote.faults g.O.Area.Area.contents g.O.Area.Area.faults g.O.Area.Area.pieces g.O.Gate.Gate.answers g.O.Gate.Gate.faults)))
    (drop_images (state_by g.O.Remote.Remote.files g.O.Remote.Remote.faults g.O.Area.Area.contents g.O.Area.Area.faults g.O.Area.Area.pieces g.O.Gate.Gate.answers g.O.Gate.Gate.faults) c.in-Ok-Ok.planned.plan.workers built.result.devices.hands.items planning.new.devices.hands.items built.ensures.others) built.ensures.reports

pub returns-in-Ok-Ok-clause-hands : goal.returns-in-Ok-Ok-clause-hands
returns-in-Ok-Ok-clause-hands g c =
    let seen : Seen = seen_by g.O.Tree.Tree.files g.O.Tree.Files.faults g.O.Shelf.Shelf.told g.O.Shelf.Shelf.faults (state_by g.O.Remote.Remote.files g.O.Remote.Remote.faults g.O.Area.Area.contents g.O.Area.Area.faults g.O.Area.Area.pieces g.O.Gate.Gate.answers g.O.Gate.Gate.faults) c.args.devices.tree c.args.devices.shelf c.args.devices.hands.items c.args.given.now.machine in
    let planning = c.plan_by_first-planning in
    let line = c.args.line.now in
    let e : planning.result.answer ≡ Ok (Ok c.in-Ok-Ok.planned) = c.in-Ok-Ok.is ∙ ap (λ (r : Result Planned Outcome). Ok r) c.in-Ok-Ok.field-0-is in
    let gives : GivesPlan seen.tree seen.outside.shelf (first_remote seen.outside) c.args.given.now line planning.result.failed (Ok c.in-Ok-Ok.planned) =
    subst (λ (r : Result (Result Planned Outcome) OutOfMemory). IfOk r (GivesPlan seen.tree seen.outside.shelf (first_remote seen.outside) c.args.given.now line planning.result.failed)) e planning.ensures.gives in
    let built = c.build_by_first in
    others_built line c.in-Ok-Ok.planned.plan.workers c.args.devices.hands.items planning.new.devices.hands.items built.result.devices.hands.items c.requires.workers.0 (built_workers line c.args.given.now seen c.requires.workers.0 (subst (λ (n : ℕ). 1 ≤ n) (sym (length-map c.args.devices.hands.items (state_by g.O.Remote.Remote.files g.O.Remote.Remote.faults g.O.Area.Area.contents g.O.Area.Area.faults g.O.Area.Area.pieces g.O.Gate.Gate.answers g.O.Gate.Gate.faults))) (at_least line.workers (length c.args.devices.hands.items) c.requires.workers.0 c.requires.workers.1)) c.requires.given c.in-Ok-Ok.planned planning.result.failed gives)
    planning.ensures.others planning.ensures.many built.ensures.others built.ensures.many

pub returns-in-Ok-Err-clause-calls : goal.returns-in-Ok-Err-clause-calls
returns-in-Ok-Err-clause-calls g c =
    let seen : Seen = seen_by g.O.Tree.Tree.files g.O.Tree.Files.faults g.O.Shelf.Shelf.told g.O.Shelf.Shelf.faults (state_by g.O.Remote.Remote.files g.O.Remote.Remote.faults g.O.Area.Area.contents g.O.Area.Area.faults g.O.Area.Area.pieces g.O.Gate.Gate.answers g.O.Gate.Gate.faults) c.args.devices.tree c.args.devices.shelf c.args.devices.hands.items c.args.given.now.machine in
    let planning = c.plan_by_first-planning in
    let line = c.args.line.now in
    let call = c.nothing in
    let after : After = after_by g.O.Tree.Files.faults g.O.Shelf.Shelf.told g.O.Shelf.Shelf.faults (state_by g.O.Remote.Remote.files g.O.Remote.Remote.faults g.O.Area.Area.contents g.O.Area.Area.faults g.O.Area.Area.pieces g.O.Gate.Gate.answers g.O.Gate.Gate.faults) planning.new.devices.tree planning.new.devices.shelf planning.new.devices.hands.items in
    let e : planning.result.answer ≡ Ok (Err c.in-Ok-Err.outcome) = c.in-Ok-Err.is ∙ ap (λ (r : Result Planned Outcome). Ok r) c.in-Ok-Err.field-0-is in
    let gives : GivesPlan seen.tree seen.outside.shelf (first_remote seen.outside) c.args.given.now line planning.result.failed (Err c.in-Ok-Err.outcome) =
    subst (λ (r : Result (Result Planned Outcome) OutOfMemory). IfOk r (GivesPlan seen.tree seen.outside.shelf (first_remote seen.outside) c.args.given.now line planning.result.failed)) e planning.ensures.gives in
    of_same call.result.devices planning.new.devices (λ d. after_by g.O.Tree.Files.faults g.O.Shelf.Shelf.told g.O.Shelf.Shelf.faults (state_by g.O.Remote.Remote.files g.O.Remote.Remote.faults g.O.Area.Area.contents g.O.Area.Area.faults g.O.Area.Area.pieces g.O.Gate.Gate.answers g.O.Gate.Gate.faults) d.tree d.shelf d.hands.items) (Ok line) seen call.result.trace call.result.answers call.result.outcome call.ensures.devices
    (calls_unbuilt line c.args.given.now seen c.requires.workers.0 (subst (λ (n : ℕ). 1 ≤ n) (sym (length-map c.args.devices.hands.items (state_by g.O.Remote.Remote.files g.O.Remote.Remote.faults g.O.Area.Area.contents g.O.Area.Area.faults g.O.Area.Area.pieces g.O.Gate.Gate.answers g.O.Gate.Gate.faults))) (at_least line.workers (length c.args.devices.hands.items) c.requires.workers.0 c.requires.workers.1)) c.requires.given after call.result.trace call.result.answers call.result.outcome c.in-Ok-Err.outcome planning.result.failed gives
    planning.ensures.asks.counted planning.ensures.asks.asked (length-map planning.new.devices.hands.items (state_by g.O.Remote.Remote.files g.O.Remote.Remote.faults g.O.Area.Area.contents g.O.Area.Area.faults g.O.Area.Area.pieces g.O.Gate.Gate.answers g.O.Gate.Gate.faults) ∙ planning.ensures.many ∙ sym (length-map c.args.devices.hands.items (state_by g.O.Remote.Remote.files g.O.Remote.Remote.faults g.O.Area.Area.contents g.O.Area.Area.faults g.O.Area.Area.pieces g.O.Gate.Gate.answers g.O.Gate.Gate.faults))) planning.ensures.asks.shelf call.ensures.outcome call.ensures.trace call.ensures.answers)

pub returns-in-Ok-Err-clause-hands : goal.returns-in-Ok-Err-clause-hands
returns-in-Ok-Err-clause-hands g c =
    let planning = c.plan_by_first-planning in
    stay_of c.nothing.result.devices planning.new.devices (λ d. d.hands.items) (Ok c.args.line.now) c.args.devices.hands.items c.nothing.ensures.devices
    (others_planned c.args.line.now c.args.devices.hands.items planning.new.devices.hands.items c.requires.workers.0 planning.ensures.others planning.ensures.many)

pub returns-in-Err-clause-calls : goal.returns-in-Err-clause-calls
returns-in-Err-clause-calls g c =
    let seen : Seen = seen_by g.O.Tree.Tree.files g.O.Tree.Files.faults g.O.Shelf.Shelf.told g.O.Shelf.Shelf.faults (state_by g.O.Remote.Remote.files g.O.Remote.Remote.faults g.O.Area.Area.contents g.O.Area.Area.faults g.O.Area.Area.pieces g.O.Gate.Gate.answers g.O.Gate.Gate.faults) c.args.devices.tree c.args.devices.shelf c.args.devices.hands.items c.args.given.now.machine in
    let planning = c.plan_by_first-planning in
    let line = c.args.line.now in
    let call = c.nothing-in-Err in
    let after : After = after_by g.O.Tree.Files.faults g.O.Shelf.Shelf.told g.O.Shelf.Shelf.faults (state_by g.O.Remote.Remote.files g.O.Remote.Remote.faults g.O.Area.Area.contents g.O.Area.Area.faults g.O.Area.Area.pieces g.O.Gate.Gate.answers g.O.Gate.Gate.faults) planning.new.devices.tree planning.new.devices.shelf planning.new.devices.hands.items in
    of_same call.result.devices planning.new.devices (λ d. after_by g.O.Tree.Files.faults g.O.Shelf.Shelf.told g.O.Shelf.Shelf.faults (state_by g.O.Remote.Remote.files g.O.Remote.Remote.faults g.O.Area.Area.contents g.O.Area.Area.faults g.O.Area.Area.pieces g.O.Gate.Gate.answers g.O.Gate.Gate.faults) d.tree d.shelf d.hands.items) (Ok line) seen call.result.trace call.result.answers call.result.outcome call.ensures.devices
    (calls_none (Ok line) seen after call.result.trace call.result.answers call.result.outcome c.in-Err.error call.ensures.outcome
    (call.ensures.trace, call.ensures.answers, planning.ensures.asks.shelf) (asked_tells seen.outside.hands after.outside.hands planning.ensures.asks.asked (length-map planning.new.devices.hands.items (state_by g.O.Remote.Remote.files g.O.Remote.Remote.faults g.O.Area.Area.contents g.O.Area.Area.faults g.O.Area.Area.pieces g.O.Gate.Gate.answers g.O.Gate.Gate.faults) ∙ planning.ensures.many ∙ sym (length-map c.args.devices.hands.items (state_by g.O.Remote.Remote.files g.O.Remote.Remote.faults g.O.Area.Area.contents g.O.Area.Area.faults g.O.Area.Area.pieces g.O.Gate.Gate.answers g.O.Gate.Gate.faults)))))

pub returns-in-Err-clause-hands : goal.returns-in-Err-clause-hands
returns-in-Err-clause-hands g c =
    let planning = c.plan_by_first-planning in
    stay_of c.nothing-in-Err.result.devices planning.new.devices (λ d. d.hands.items) (Ok c.args.line.now) c.args.devices.hands.items c.nothing-in-Err.ensures.devices
    (others_planned c.args.line.now c.args.devices.hands.items planning.new.devices.hands.items c.requires.workers.0 planning.ensures.others planning.ensures.many)
