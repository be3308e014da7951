use Rattle.std.proofs.Common.{ℕ, Option, IfOk, None, ap, get_or, subst, sym}
use Rattle.mvn_shared.specs.Files.{Files}
use Rattle.model_resolver.specs.Devices.{Counted, Counts}
use Rattle.crew_turns.specs.Hands.{HandState, state_by}
use Rattle.call_plan.specs.Project.{GivesPlan}
use Rattle.call_plan.specs.Seen.{after_by, counts_of}
use Rattle.call_plan.proofs.FirstHand.{asked_first, first_of, first_set, others_set}
use Rattle.call_plan.proofs.project.plan_by_first.Goals as goal

pub returns-clause-gives : goal.returns-clause-gives
returns-clause-gives g c =
    let planned = c.plan_by_hand in
    let given = c.args.devices.now in
    let first = first_of (state_by g.O.Remote.Remote.files g.O.Remote.Remote.faults g.O.Area.Area.contents g.O.Area.Area.faults g.O.Area.Area.pieces g.O.Gate.Gate.answers g.O.Gate.Gate.faults) given.hands.items c.index_mut-hand.result.now c.index_mut-hand.ensures.value c.requires.some in
    subst (λ (remote : Option Files). IfOk planned.result.answer (GivesPlan (g.O.Tree.Tree.files given.tree) (g.O.Shelf.Shelf.told given.shelf) remote c.args.given.now c.args.line.now planned.result.failed))
    (sym (ap (λ (h : HandState). h.told.remote) first)) planned.ensures.gives

pub returns-clause-asks : goal.returns-clause-asks
returns-clause-asks g c =
    let planned = c.plan_by_hand in
    let given = c.args.devices.now in
    let first = first_of (state_by g.O.Remote.Remote.files g.O.Remote.Remote.faults g.O.Area.Area.contents g.O.Area.Area.faults g.O.Area.Area.pieces g.O.Gate.Gate.answers g.O.Gate.Gate.faults) given.hands.items c.index_mut-hand.result.now c.index_mut-hand.ensures.value c.requires.some in
    let last = first_set (state_by g.O.Remote.Remote.files g.O.Remote.Remote.faults g.O.Area.Area.contents g.O.Area.Area.faults g.O.Area.Area.pieces g.O.Gate.Gate.answers g.O.Gate.Gate.faults) given.hands.items planned.new.hand c.requires.some in
    let before : ℕ → Counts = λ n. record { tree = g.O.Tree.Files.faults given.tree; shelf = g.O.Shelf.Shelf.faults given.shelf; remote = n } in
    let now : ℕ → Counts = λ n. record { tree = g.O.Tree.Files.faults planned.new.tree; shelf = g.O.Shelf.Shelf.faults planned.new.shelf; remote = n } in
    let old = after_by g.O.Tree.Files.faults g.O.Shelf.Shelf.told g.O.Shelf.Shelf.faults (state_by g.O.Remote.Remote.files g.O.Remote.Remote.faults g.O.Area.Area.contents g.O.Area.Area.faults g.O.Area.Area.pieces g.O.Gate.Gate.answers g.O.Gate.Gate.faults) given.tree given.shelf given.hands.items in
    record {
      shelf = planned.ensures.shelf;
      counted =
          subst (λ (n : ℕ). Counted None planned.result.failed (counts_of (g.O.Tree.Files.faults given.tree) old.outside) (now n)) (sym (ap (λ (h : HandState). h.remote) last))
          (subst (λ (n : ℕ). Counted None planned.result.failed (before n) (now (g.O.Remote.Remote.faults planned.new.hand.remote))) (sym (ap (λ (h : HandState). h.remote) first)) planned.ensures.counted);
      asked = asked_first (state_by g.O.Remote.Remote.files g.O.Remote.Remote.faults g.O.Area.Area.contents g.O.Area.Area.faults g.O.Area.Area.pieces g.O.Gate.Gate.answers g.O.Gate.Gate.faults) given.hands.items planned.new.hand c.index_mut-hand.result.now c.index_mut-hand.ensures.value c.requires.some planned.ensures.state;
    }

pub returns-clause-others : goal.returns-clause-others
returns-clause-others g c = others_set c.args.devices.now.hands.items c.plan_by_hand.new.hand
