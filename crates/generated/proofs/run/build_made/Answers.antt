use Rattle.std.proofs.Common.{◌≡◌, ◌≤◌, ◌∙◌, ℕ, map, None, Some, Option, Result, Ok, Err, IfOk, IfSome, ap, refl, subst, sym, arith}
use Rattle.mvn_shared.specs.declared.memory.OutOfMemory.{OutOfMemory}
use Rattle.mvn_outside.specs.Shelf.{files_now}
use Rattle.mvn_outside.specs.declared.shelf.ShelfTold.{ShelfTold}
use Rattle.run_law.specs.Given.{IsPresent}
use Rattle.model_resolver.specs.Devices.{Counted}
use Rattle.module_plan.specs.declared.selected.Planned.{Planned}
use Rattle.build_outcome.specs.Left.{Outside}
use Rattle.build_outcome.specs.declared.outcome.Outcome.{Outcome}
use Rattle.call_plan.specs.Project.{GivesPlan}
use Rattle.call_plan.specs.Seen.{counts_of, first_remote}
use Rattle.outside_mem.specs.Shelf.{shelf_told}
use Rattle.outside_mem.specs.Tree.{tree_files}
use Rattle.generated.specs.Made.{made}
use Rattle.generated.specs.States.{outside, state}
use Rattle.generated.specs.SummedUp.{SumsUp}
use Rattle.generated.proofs.Building.{Gives, IsReady, found_is, generates_built, generates_none, generates_unbuilt, gives_made, hands_count, ready}
use Rattle.generated.proofs.Lists.{faultless, given_made, left_made}
use Rattle.generated.proofs.run.build_made.Goals as goal

pub plan_by_first-planning-requires-clause-some : goal.plan_by_first-planning-requires-clause-some
plan_by_first-planning-requires-clause-some g c =
    let many = hands_count state c.args.devices.hands.items c.args.line.now.workers c.requires.hands in
    omega (arith, many, c.requires.workers.0)

pub build_summed-requires-clause-sound : goal.build_summed-requires-clause-sound
build_summed-requires-clause-sound g c κs within =
    let planning = c.plan_by_first-planning in
    let line = c.args.line.now in
    let given = c.args.given.now in
    let middle = outside planning.new.devices.shelf planning.new.devices.hands.items in
    let counted : Counted None planning.result.failed (counts_of 0 (made line.workers)) (counts_of 0 middle) =
    subst (λ (o : Outside). Counted None planning.result.failed (counts_of 0 o) (counts_of 0 middle)) (given_made line.workers c.args.devices.shelf c.args.devices.hands.items c.requires.shelf c.requires.hands) planning.ensures.asks.counted in
    let p = c.in-Ok-Ok.planned in
    let e : planning.result.answer ≡ Ok (Ok p) = c.in-Ok-Ok.is ∙ ap (λ (r : Result Planned Outcome). Ok r) c.in-Ok-Ok.field-0-is in
    let gives : Gives c.args.poms line given given.machine c.requires.workers.0 c.requires.given planning.result.failed (Ok p) =
    gives_made c.args.poms line given given.machine c.requires.workers.0 c.requires.given (tree_files c.args.devices.tree) (shelf_told c.args.devices.shelf) (map state c.args.devices.hands.items) planning.result.failed (Ok p) c.requires.tree c.requires.shelf c.requires.hands
    (subst (λ (r : Result (Result Planned Outcome) OutOfMemory). IfOk r (GivesPlan (Some (tree_files c.args.devices.tree)) (Some (shelf_told c.args.devices.shelf)) (first_remote (outside c.args.devices.shelf c.args.devices.hands.items)) given line planning.result.failed)) e planning.ensures.gives) in
    let is : IsReady line p = ready c.args.poms line given given.machine c.requires.workers.0 c.requires.given planning.result.failed p middle (faultless planning.new.devices.shelf planning.new.devices.hands.items) counted gives in
    is.sound

pub build_summed-requires-clause-few : goal.build_summed-requires-clause-few
build_summed-requires-clause-few g c κs within =
    let planning = c.plan_by_first-planning in
    let line = c.args.line.now in
    let given = c.args.given.now in
    let middle = outside planning.new.devices.shelf planning.new.devices.hands.items in
    let counted : Counted None planning.result.failed (counts_of 0 (made line.workers)) (counts_of 0 middle) =
    subst (λ (o : Outside). Counted None planning.result.failed (counts_of 0 o) (counts_of 0 middle)) (given_made line.workers c.args.devices.shelf c.args.devices.hands.items c.requires.shelf c.requires.hands) planning.ensures.asks.counted in
    let p = c.in-Ok-Ok.planned in
    let e : planning.result.answer ≡ Ok (Ok p) = c.in-Ok-Ok.is ∙ ap (λ (r : Result Planned Outcome). Ok r) c.in-Ok-Ok.field-0-is in
    let gives : Gives c.args.poms line given given.machine c.requires.workers.0 c.requires.given planning.result.failed (Ok p) =
    gives_made c.args.poms line given given.machine c.requires.workers.0 c.requires.given (tree_files c.args.devices.tree) (shelf_told c.args.devices.shelf) (map state c.args.devices.hands.items) planning.result.failed (Ok p) c.requires.tree c.requires.shelf c.requires.hands
    (subst (λ (r : Result (Result Planned Outcome) OutOfMemory). IfOk r (GivesPlan (Some (tree_files c.args.devices.tree)) (Some (shelf_told c.args.devices.shelf)) (first_remote (outside c.args.devices.shelf c.args.devices.hands.items)) given line planning.result.failed)) e planning.ensures.gives) in
    let is : IsReady line p = ready c.args.poms line given given.machine c.requires.workers.0 c.requires.given planning.result.failed p middle (faultless planning.new.devices.shelf planning.new.devices.hands.items) counted gives in
    is.few

pub build_summed-requires-clause-names : goal.build_summed-requires-clause-names
build_summed-requires-clause-names g c κs within =
    let planning = c.plan_by_first-planning in
    let line = c.args.line.now in
    let given = c.args.given.now in
    let middle = outside planning.new.devices.shelf planning.new.devices.hands.items in
    let counted : Counted None planning.result.failed (counts_of 0 (made line.workers)) (counts_of 0 middle) =
    subst (λ (o : Outside). Counted None planning.result.failed (counts_of 0 o) (counts_of 0 middle)) (given_made line.workers c.args.devices.shelf c.args.devices.hands.items c.requires.shelf c.requires.hands) planning.ensures.asks.counted in
    let p = c.in-Ok-Ok.planned in
    let e : planning.result.answer ≡ Ok (Ok p) = c.in-Ok-Ok.is ∙ ap (λ (r : Result Planned Outcome). Ok r) c.in-Ok-Ok.field-0-is in
    let gives : Gives c.args.poms line given given.machine c.requires.workers.0 c.requires.given planning.result.failed (Ok p) =
    gives_made c.args.poms line given given.machine c.requires.workers.0 c.requires.given (tree_files c.args.devices.tree) (shelf_told c.args.devices.shelf) (map state c.args.devices.hands.items) planning.result.failed (Ok p) c.requires.tree c.requires.shelf c.requires.hands
    (subst (λ (r : Result (Result Planned Outcome) OutOfMemory). IfOk r (GivesPlan (Some (tree_files c.args.devices.tree)) (Some (shelf_told c.args.devices.shelf)) (first_remote (outside c.args.devices.shelf c.args.devices.hands.items)) given line planning.result.failed)) e planning.ensures.gives) in
    let is : IsReady line p = ready c.args.poms line given given.machine c.requires.workers.0 c.requires.given planning.result.failed p middle (faultless planning.new.devices.shelf planning.new.devices.hands.items) counted gives in
    is.names

pub build_summed-requires-clause-enough : goal.build_summed-requires-clause-enough
build_summed-requires-clause-enough g c =
    let planning = c.plan_by_first-planning in
    let line = c.args.line.now in
    let given = c.args.given.now in
    let middle = outside planning.new.devices.shelf planning.new.devices.hands.items in
    let counted : Counted None planning.result.failed (counts_of 0 (made line.workers)) (counts_of 0 middle) =
    subst (λ (o : Outside). Counted None planning.result.failed (counts_of 0 o) (counts_of 0 middle)) (given_made line.workers c.args.devices.shelf c.args.devices.hands.items c.requires.shelf c.requires.hands) planning.ensures.asks.counted in
    let p = c.in-Ok-Ok.planned in
    let e : planning.result.answer ≡ Ok (Ok p) = c.in-Ok-Ok.is ∙ ap (λ (r : Result Planned Outcome). Ok r) c.in-Ok-Ok.field-0-is in
    let gives : Gives c.args.poms line given given.machine c.requires.workers.0 c.requires.given planning.result.failed (Ok p) =
    gives_made c.args.poms line given given.machine c.requires.workers.0 c.requires.given (tree_files c.args.devices.tree) (shelf_told c.args.devices.shelf) (map state c.args.devices.hands.items) planning.result.failed (Ok p) c.requires.tree c.requires.shelf c.requires.hands
    (subst (λ (r : Result (Result Planned Outcome) OutOfMemory). IfOk r (GivesPlan (Some (tree_files c.args.devices.tree)) (Some (shelf_told c.args.devices.shelf)) (first_remote (outside c.args.devices.shelf c.args.devices.hands.items)) given line planning.result.failed)) e planning.ensures.gives) in
    let is : IsReady line p = ready c.args.poms line given given.machine c.requires.workers.0 c.requires.given planning.result.failed p middle (faultless planning.new.devices.shelf planning.new.devices.hands.items) counted gives in
    let many = hands_count state c.args.devices.hands.items line.workers c.requires.hands in
    let still = planning.ensures.many in
    let workers = is.workers in
    omega (arith, many, still, workers)

pub build_summed-requires-clause-present : goal.build_summed-requires-clause-present
build_summed-requires-clause-present g c κs within =
    let planning = c.plan_by_first-planning in
    let line = c.args.line.now in
    let given = c.args.given.now in
    let middle = outside planning.new.devices.shelf planning.new.devices.hands.items in
    let counted : Counted None planning.result.failed (counts_of 0 (made line.workers)) (counts_of 0 middle) =
    subst (λ (o : Outside). Counted None planning.result.failed (counts_of 0 o) (counts_of 0 middle)) (given_made line.workers c.args.devices.shelf c.args.devices.hands.items c.requires.shelf c.requires.hands) planning.ensures.asks.counted in
    let p = c.in-Ok-Ok.planned in
    let e : planning.result.answer ≡ Ok (Ok p) = c.in-Ok-Ok.is ∙ ap (λ (r : Result Planned Outcome). Ok r) c.in-Ok-Ok.field-0-is in
    let gives : Gives c.args.poms line given given.machine c.requires.workers.0 c.requires.given planning.result.failed (Ok p) =
    gives_made c.args.poms line given given.machine c.requires.workers.0 c.requires.given (tree_files c.args.devices.tree) (shelf_told c.args.devices.shelf) (map state c.args.devices.hands.items) planning.result.failed (Ok p) c.requires.tree c.requires.shelf c.requires.hands
    (subst (λ (r : Result (Result Planned Outcome) OutOfMemory). IfOk r (GivesPlan (Some (tree_files c.args.devices.tree)) (Some (shelf_told c.args.devices.shelf)) (first_remote (outside c.args.devices.shelf c.args.devices.hands.items)) given line planning.result.failed)) e planning.ensures.gives) in
    let is : IsReady line p = ready c.args.poms line given given.machine c.requires.workers.0 c.requires.given planning.result.failed p middle (faultless planning.new.devices.shelf planning.new.devices.hands.items) counted gives in
    subst (λ (s : Option ShelfTold). IfSome s (λ told. IsPresent p.plan (files_now told))) (ap (λ (t : ShelfTold). Some t) (sym c.requires.shelf) ∙ sym planning.ensures.asks.shelf) is.present

pub returns-in-Ok-Ok : goal.returns-in-Ok-Ok
returns-in-Ok-Ok g c =
    let planning = c.plan_by_first-planning in
    let line = c.args.line.now in
    let given = c.args.given.now in
    let middle = outside planning.new.devices.shelf planning.new.devices.hands.items in
    let counted : Counted None planning.result.failed (counts_of 0 (made line.workers)) (counts_of 0 middle) =
    subst (λ (o : Outside). Counted None planning.result.failed (counts_of 0 o) (counts_of 0 middle)) (given_made line.workers c.args.devices.shelf c.args.devices.hands.items c.requires.shelf c.requires.hands) planning.ensures.asks.counted in
    let p = c.in-Ok-Ok.planned in
    let e : planning.result.answer ≡ Ok (Ok p) = c.in-Ok-Ok.is ∙ ap (λ (r : Result Planned Outcome). Ok r) c.in-Ok-Ok.field-0-is in
    let gives : Gives c.args.poms line given given.machine c.requires.workers.0 c.requires.given planning.result.failed (Ok p) =
    gives_made c.args.poms line given given.machine c.requires.workers.0 c.requires.given (tree_files c.args.devices.tree) (shelf_told c.args.devices.shelf) (map state c.args.devices.hands.items) planning.result.failed (Ok p) c.requires.tree c.requires.shelf c.requires.hands
    (subst (λ (r : Result (Result Planned Outcome) OutOfMemory). IfOk r (GivesPlan (Some (tree_files c.args.devices.tree)) (Some (shelf_told c.args.devices.shelf)) (first_remote (outside c.args.devices.shelf c.args.devices.hands.items)) given line planning.result.failed)) e planning.ensures.gives) in
    let is : IsReady line p = ready c.args.poms line given given.machine c.requires.workers.0 c.requires.given planning.result.failed p middle (faultless planning.new.devices.shelf planning.new.devices.hands.items) counted gives in
    let call = c.build_summed in
    let still = faultless planning.new.devices.shelf planning.new.devices.hands.items in
    let left : middle ≡ made line.workers = left_made line.workers c.args.devices.shelf planning.new.devices.shelf c.args.devices.hands.items planning.new.devices.hands.items c.requires.shelf c.requires.hands planning.ensures.asks.shelf planning.ensures.many planning.ensures.asks.asked in
    record {
      generates = generates_built c.args.poms line given given.machine c.requires.workers.0 c.requires.given p
          (found_is c.args.poms line given given.machine c.requires.workers.0 c.requires.given planning.result.failed (Ok p) middle still counted gives) is.workers call.result.trace call.result.answers call.result.outcome
          (subst (λ (o : Outside). SumsUp c.args.poms p o call.result.trace call.result.answers call.result.outcome) left call.ensures.sums);
    }

pub returns-in-Ok-Err : goal.returns-in-Ok-Err
returns-in-Ok-Err g c =
    let planning = c.plan_by_first-planning in
    let line = c.args.line.now in
    let given = c.args.given.now in
    let middle = outside planning.new.devices.shelf planning.new.devices.hands.items in
    let counted : Counted None planning.result.failed (counts_of 0 (made line.workers)) (counts_of 0 middle) =
    subst (λ (o : Outside). Counted None planning.result.failed (counts_of 0 o) (counts_of 0 middle)) (given_made line.workers c.args.devices.shelf c.args.devices.hands.items c.requires.shelf c.requires.hands) planning.ensures.asks.counted in
    let answer = c.in-Ok-Err.outcome in
    let e : planning.result.answer ≡ Ok (Err answer) = c.in-Ok-Err.is ∙ ap (λ (r : Result Planned Outcome). Ok r) c.in-Ok-Err.field-0-is in
    let gives : Gives c.args.poms line given given.machine c.requires.workers.0 c.requires.given planning.result.failed (Err answer) =
    gives_made c.args.poms line given given.machine c.requires.workers.0 c.requires.given (tree_files c.args.devices.tree) (shelf_told c.args.devices.shelf) (map state c.args.devices.hands.items) planning.result.failed (Err answer) c.requires.tree c.requires.shelf c.requires.hands
    (subst (λ (r : Result (Result Planned Outcome) OutOfMemory). IfOk r (GivesPlan (Some (tree_files c.args.devices.tree)) (Some (shelf_told c.args.devices.shelf)) (first_remote (outside c.args.devices.shelf c.args.devices.hands.items)) given line planning.result.failed)) e planning.ensures.gives) in
    let call = c.nothing in
    record {
      generates = generates_unbuilt c.args.poms line given given.machine c.requires.workers.0 c.requires.given call.result.trace call.result.answers call.result.outcome answer call.ensures.outcome call.ensures.trace call.ensures.answers
          (found_is c.args.poms line given given.machine c.requires.workers.0 c.requires.given planning.result.failed (Err answer) middle (faultless planning.new.devices.shelf planning.new.devices.hands.items) counted gives);
    }

pub returns-in-Err : goal.returns-in-Err
returns-in-Err g c =
    let call = c.nothing-in-Err in
    record { generates = generates_none c.args.poms c.args.line.now c.args.given.now.machine call.result.trace call.result.answers call.result.outcome c.in-Err.error call.ensures.outcome call.ensures.trace call.ensures.answers }
