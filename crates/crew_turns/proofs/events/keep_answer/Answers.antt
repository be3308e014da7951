use Rattle.std.proofs.Common.{◌≡◌, IfSome, inr, ap, sym, subst}
use Rattle.build_core.specs.declared.event.Event.TheVariants as event
use Rattle.event_core.specs.declared.entry.Carried.TheVariants as carried
use Rattle.event_core.specs.Runs.{answers_in, goals_in, module_by}
use Rattle.board.specs.Builds.{MayCome, answer_kept, kept_in}
use Rattle.crew_turns.specs.Tasks.{IsTask}
use Rattle.crew_turns.proofs.Taken.{adds, itself, step_fits, stepped}
use Rattle.crew_turns.specs.Asked.{goals_with}
use Rattle.crew_turns.proofs.Keeping.{answer_fits, answer_may, goals_now, kept_now, one_answer}
use Rattle.crew_turns.proofs.Results.{seen_is}
use Rattle.crew_turns.proofs.events.keep_answer.Goals as goal

pub answer-kept-requires : goal.answer-kept-requires
answer-kept-requires g c =
    let t = c.args.task.now in
    let b = c.taken-value.result in
    let is = c.taken-value.ensures.out t.plan t.worker c.requires.of in
    let at = subst IsTask c.task.view_is c.task.invariant in
    let worker = ap (λ v. v.worker) c.task.view_is in
    record {
      may = subst (λ k. MayCome b (event.Answer k c.args.goal)) (sym worker) (answer_may t c.args.lock.now c.args.pass.now c.requires.of b is c.args.goal c.requires.good.0 c.requires.good.1 at c.requires.some_goal);
    }

pub give-requires-clause-taken : goal.give-requires-clause-taken
give-requires-clause-taken g c =
    let t = c.args.task.now in
    let b = c.taken-value.result in
    let now = c.answer-kept.new.self in
    let is = c.taken-value.ensures.out t.plan t.worker c.requires.of in
    let worker = ap (λ v. v.worker) c.task.view_is in
    let one = one_answer b now c.task.inside.worker t.worker c.args.goal c.args.answer c.answer-kept.ensures.entry worker in
    adds t.plan c.args.lock.now t.worker c.args.pass.now c.requires.of b is (event.Answer t.worker c.args.goal) (carried.Answered c.args.answer) now.log one c.taken-value.new.pass c.taken-value.ensures.pass (inr (itself t.worker))

pub returns-clause-step : goal.returns-clause-step
returns-clause-step g c =
    let t = c.args.task.now in
    let b = c.taken-value.result in
    let now = c.answer-kept.new.self in
    let is = c.taken-value.ensures.out t.plan t.worker c.requires.of in
    let at = subst IsTask c.task.view_is c.task.invariant in
    let worker = ap (λ v. v.worker) c.task.view_is in
    let one = one_answer b now c.task.inside.worker t.worker c.args.goal c.args.answer c.answer-kept.ensures.entry worker in
    stepped t.plan c.args.lock.now t.worker c.args.pass.now c.requires.of b is (event.Answer t.worker c.args.goal) (carried.Answered c.args.answer) now.log one c.taken-value.new.pass c.give.new.pass c.taken-value.ensures.pass c.give.ensures (answer_may t c.args.lock.now c.args.pass.now c.requires.of b is c.args.goal c.requires.good.0 c.requires.good.1 at c.requires.some_goal)

pub returns-clause-goals : goal.returns-clause-goals
returns-clause-goals g c =
    let t = c.args.task.now in
    let b = c.taken-value.result in
    let now = c.answer-kept.new.self in
    let is = c.taken-value.ensures.out t.plan t.worker c.requires.of in
    let at = subst IsTask c.task.view_is c.task.invariant in
    let worker = ap (λ v. v.worker) c.task.view_is in
    let one = one_answer b now c.task.inside.worker t.worker c.args.goal c.args.answer c.answer-kept.ensures.entry worker in
    subst (λ log. goals_in (answers_in t.plan log) t.number t.unit ≡ goals_with t c.args.pass.now c.args.goal c.args.answer) (seen_is c.args.pass.now b.log now.log c.taken-value.new.pass c.give.new.pass c.taken-value.ensures.pass c.give.ensures) (goals_now t c.args.lock.now c.args.pass.now c.requires.of b is c.args.goal c.requires.good.0 c.requires.good.1 at c.requires.some_goal c.args.answer now.log one)

pub returns-clause-kept : goal.returns-clause-kept
returns-clause-kept g c =
    let t = c.args.task.now in
    let b = c.taken-value.result in
    let now = c.answer-kept.new.self in
    let is = c.taken-value.ensures.out t.plan t.worker c.requires.of in
    let at = subst IsTask c.task.view_is c.task.invariant in
    let worker = ap (λ v. v.worker) c.task.view_is in
    subst (λ log. c.answer-kept.result ≡ answer_kept c.args.goal (goals_in (answers_in t.plan log) t.number t.unit)) (seen_is c.args.pass.now b.log now.log c.taken-value.new.pass c.give.new.pass c.taken-value.ensures.pass c.give.ensures)
    (kept_now t c.args.lock.now c.args.pass.now c.requires.of b is c.args.goal c.requires.good.0 c.requires.good.1 at c.requires.some_goal now c.answer-kept.result (ap (λ x. x.plan) c.answer-kept.ensures.entry)
    (subst (λ k. IfSome (module_by b.plan b.log k) (λ number. c.answer-kept.result ≡ kept_in now number c.args.goal)) worker c.answer-kept.ensures.kept))

pub returns-clause-fits : goal.returns-clause-fits
returns-clause-fits g c =
    let t = c.args.task.now in
    let b = c.taken-value.result in
    let now = c.answer-kept.new.self in
    let is = c.taken-value.ensures.out t.plan t.worker c.requires.of in
    let at = subst IsTask c.task.view_is c.task.invariant in
    let worker = ap (λ v. v.worker) c.task.view_is in
    let one = one_answer b now c.task.inside.worker t.worker c.args.goal c.args.answer c.answer-kept.ensures.entry worker in
    λ told fit. step_fits t.plan c.args.lock.now t.worker c.args.pass.now c.requires.of b is (event.Answer t.worker c.args.goal) (carried.Answered c.args.answer) now.log one c.taken-value.new.pass c.give.new.pass c.taken-value.ensures.pass c.give.ensures told (answer_fits t c.args.lock.now c.args.pass.now c.requires.of b is c.args.goal c.requires.good.0 c.requires.good.1 at c.requires.some_goal told c.args.answer fit)
