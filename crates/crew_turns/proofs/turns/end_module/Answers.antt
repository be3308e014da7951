use Rattle.std.proofs.Common.{◌≡◌, [], ◌∷◌, ◌++◌, ap, sym, subst, inr, true, false, ◌∙◌}
use Rattle.build_core.specs.declared.event.Event.TheVariants as event
use Rattle.event_core.specs.declared.entry.Carried.TheVariants as carried
use Rattle.event_core.specs.Runs.{is_quiet_event}
use Rattle.board.specs.Builds.{MayCome}
use Rattle.board.specs.Logs.{is_shelf_end}
use Rattle.crew_turns.specs.Ends.{ends_as}
use Rattle.crew_turns.specs.Tasks.{IsTask}
use Rattle.crew_turns.proofs.Ends.{blames, end_fits, end_may, honest}
use Rattle.crew_turns.proofs.Taken.{adds, ended_more, itself, step_fits, stepped}
use Rattle.crew_turns.proofs.turns.end_module.Goals as goal

pub end-requires : goal.end-requires
end-requires g c =
    let t = c.args.task.now in
    let b = c.taken-value.result in
    let is = c.taken-value.ensures.out t.plan t.worker c.requires.of in
    let worker = ap (λ v. v.worker) c.task.view_is in
    record {
      may =
          subst (λ k. MayCome b (event.End k c.settled_end-settled.result)) (sym worker)
          (subst (λ x. MayCome b (event.End t.worker x)) (sym c.settled_end-settled.ensures)
          (end_may t.plan c.args.lock.now t.worker c.args.pass.now c.requires.of b is c.args.ending c.shelf_failed-marked.result c.requires.may c.requires.held c.requires.range));
      marked = λ end. sym c.shelf_failed-marked.ensures ∙ blames c.task.inside.worker c.args.ending c.shelf_failed-marked.result (subst (λ x. is_shelf_end (event.End c.task.inside.worker x) ≡ true) c.settled_end-settled.ensures end);
      honest = λ end.
          subst (λ x. is_quiet_event (event.End c.task.inside.worker x) ≡ false) (sym c.settled_end-settled.ensures)
          (honest c.task.inside.worker c.args.ending c.shelf_failed-marked.result (c.shelf_failed-marked.ensures ∙ end));
    }

pub give-requires-clause-taken : goal.give-requires-clause-taken
give-requires-clause-taken g c =
    let t = c.args.task.now in
    let b = c.taken-value.result in
    adds t.plan c.args.lock.now t.worker c.args.pass.now c.requires.of b (c.taken-value.ensures.out t.plan t.worker c.requires.of) (event.End t.worker c.settled_end-settled.result) carried.Nothing c.end.new.self.log
    (ended_more b c.end.new.self (λ k. event.End k c.settled_end-settled.result) c.task.inside.worker t.worker c.end.ensures.entry (ap (λ v. v.worker) c.task.view_is)) c.taken-value.new.pass c.taken-value.ensures.pass (inr (itself t.worker))

pub returns-clause-settled : goal.returns-clause-settled
returns-clause-settled g c = (c.shelf_failed-marked.result, c.settled_end-settled.ensures)

pub returns-clause-step : goal.returns-clause-step
returns-clause-step g c =
    let t = c.args.task.now in
    let b = c.taken-value.result in
    let is = c.taken-value.ensures.out t.plan t.worker c.requires.of in
    stepped t.plan c.args.lock.now t.worker c.args.pass.now c.requires.of b is (event.End t.worker c.settled_end-settled.result) carried.Nothing c.end.new.self.log
    (ended_more b c.end.new.self (λ k. event.End k c.settled_end-settled.result) c.task.inside.worker t.worker c.end.ensures.entry (ap (λ v. v.worker) c.task.view_is)) c.taken-value.new.pass c.give.new.pass c.taken-value.ensures.pass c.give.ensures
    (subst (λ x. MayCome b (event.End t.worker x)) (sym c.settled_end-settled.ensures)
    (end_may t.plan c.args.lock.now t.worker c.args.pass.now c.requires.of b is c.args.ending c.shelf_failed-marked.result c.requires.may c.requires.held c.requires.range))

pub returns-clause-fits : goal.returns-clause-fits
returns-clause-fits g c =
    let t = c.args.task.now in
    let b = c.taken-value.result in
    let is = c.taken-value.ensures.out t.plan t.worker c.requires.of in
    λ told fit.
    step_fits t.plan c.args.lock.now t.worker c.args.pass.now c.requires.of b is (event.End t.worker (ends_as c.args.ending c.shelf_failed-marked.result)) carried.Nothing c.end.new.self.log
    (ended_more b c.end.new.self (λ k. event.End k c.settled_end-settled.result) c.task.inside.worker t.worker c.end.ensures.entry (ap (λ v. v.worker) c.task.view_is)
    ∙ ap (λ x. b.log ++ (record { event = event.End t.worker x; carried = carried.Nothing }) ∷ []) c.settled_end-settled.ensures)
    c.taken-value.new.pass c.give.new.pass c.taken-value.ensures.pass c.give.ensures
    told (end_fits t.plan c.args.lock.now t.worker c.args.pass.now c.requires.of b is c.args.ending c.shelf_failed-marked.result c.requires.may t.number t.unit c.requires.whose (subst IsTask c.task.view_is c.task.invariant) told fit)
