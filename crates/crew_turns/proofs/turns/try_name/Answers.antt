use Rattle.std.proofs.Common.{◌≡◌, ◌<◌, true, ap, sym, subst, Some, ◌∙◌}
use Rattle.event_core.specs.Runs.{IsRunOf}
use Rattle.scripts.specs.declared.deed.Deed.TheVariants as deed
use Rattle.board.specs.Builds.{after_try, standing_at}
use Rattle.event_core.specs.Enabled.{is_due}
use Rattle.event_core.specs.Standing.{course_of}
use Rattle.crew_turns.specs.Seen.{Told, view}
use Rattle.crew_turns.specs.Taken.{opened_of}
use Rattle.crew_turns.specs.Tasks.{IsTask}
use Rattle.crew_turns.specs.Turned.{Looks}
use Rattle.crew_turns.proofs.Nexts.{low_worker}
use Rattle.crew_turns.proofs.Takes.{adds_try, due_here, reach, reach_fits, same_tried, same_try}
use Rattle.crew_turns.proofs.turns.try_name.Goals as goal

pub take-tried-requires : goal.take-tried-requires
take-tried-requires g c =
    let t = c.args.task.now in
    let b = c.taken-value.result in
    let is = c.taken-value.ensures.out t.plan t.worker c.requires.of in
    let worker = ap (λ v. v.worker) c.task.view_is in
    record {
      worker = subst (λ k. k < b.plan.workers) (sym worker) (low_worker t.plan c.args.lock.now t.worker c.args.pass.now c.requires.of b is);
      due = subst (λ k. is_due (course_of (standing_at b) k) (deed.Take c.args.mode c.args.name) ≡ true) (sym worker) (due_here t.plan c.args.lock.now t.worker c.args.pass.now c.requires.of b is (deed.Take c.args.mode c.args.name) c.requires.due);
    }

pub give-requires-clause-taken : goal.give-requires-clause-taken
give-requires-clause-taken g c =
    let t = c.args.task.now in
    let b = c.taken-value.result in
    let is = c.taken-value.ensures.out t.plan t.worker c.requires.of in
    adds_try t.plan c.args.lock.now t.worker c.args.pass.now c.requires.of b is c.take-tried.new.self c.taken-value.new.pass c.taken-value.new.pass c.taken-value.ensures.pass c.args.name c.args.mode c.take-tried.result
    (c.take-tried.ensures.entry ∙ ap (λ k. after_try b k c.args.name c.args.mode c.take-tried.result) (ap (λ v. v.worker) c.task.view_is))

pub give-requires-clause-fixed : goal.give-requires-clause-fixed
give-requires-clause-fixed g c =
    ap Some (ap (opened_of g.S.Shelf.told g.S.Shelf.faults) c.take-tried.ensures.entry ∙ same_tried g.S.Shelf.told g.S.Shelf.faults c.taken-value.result c.task.inside.worker c.args.name c.args.mode c.take-tried.result)
    ∙ c.taken-value.ensures.fixed ∙ sym (ap (λ (p : Told). (view p).fixed) c.taken-value.ensures.pass)

pub give-requires-clause-workers : goal.give-requires-clause-workers
give-requires-clause-workers g c =
    ap (λ b. b.plan.workers) c.take-tried.ensures.entry ∙ ap (λ p. p.workers) (same_try c.taken-value.result c.task.inside.worker c.args.name c.args.mode c.take-tried.result)
    ∙ c.taken-value.ensures.workers ∙ sym (ap (λ (p : Told). (view p).workers) c.taken-value.ensures.pass)

pub returns-clause-turn : goal.returns-clause-turn
returns-clause-turn g c =
    let t = c.args.task.now in
    let b = c.taken-value.result in
    let is = c.taken-value.ensures.out t.plan t.worker c.requires.of in
    let over = ap (λ b. b.plan) c.take-tried.ensures.entry ∙ same_try b c.task.inside.worker c.args.name c.args.mode c.take-tried.result ∙ is.plan_is in
    let run = subst (λ p. IsRunOf p c.take-tried.new.self.log) over c.keeps.ensures.run in
    reach t.plan c.args.lock.now t.worker c.args.pass.now c.requires.of b is c.take-tried.new.self c.taken-value.new.pass c.give.new.pass c.taken-value.ensures.pass c.args.name c.args.mode c.give.ensures run t.unit t.number c.args.from c.take-tried.result c.reached_by-reached.result
    (c.take-tried.ensures.entry ∙ ap (λ k. after_try b k c.args.name c.args.mode c.take-tried.result) (ap (λ v. v.worker) c.task.view_is))
    over (subst (λ fs. Looks (standing_at c.take-tried.new.self).there fs c.args.from c.take-tried.result c.reached_by-reached.result) (c.as_slice.ensures ∙ ap (λ v. v.unit.fetch) c.task.view_is) c.reached_by-reached.ensures)

pub returns-clause-fits : goal.returns-clause-fits
returns-clause-fits g c =
    let t = c.args.task.now in
    let b = c.taken-value.result in
    let is = c.taken-value.ensures.out t.plan t.worker c.requires.of in
    let over = ap (λ b. b.plan) c.take-tried.ensures.entry ∙ same_try b c.task.inside.worker c.args.name c.args.mode c.take-tried.result ∙ is.plan_is in
    let run = subst (λ p. IsRunOf p c.take-tried.new.self.log) over c.keeps.ensures.run in
    reach_fits t.plan c.args.lock.now t.worker c.args.pass.now c.requires.of b is c.take-tried.new.self c.taken-value.new.pass c.give.new.pass c.taken-value.ensures.pass c.args.name c.args.mode c.give.ensures run t.number t.unit c.requires.whose (subst IsTask c.task.view_is c.task.invariant) c.requires.fits c.take-tried.result
    (c.take-tried.ensures.entry ∙ ap (λ k. after_try b k c.args.name c.args.mode c.take-tried.result) (ap (λ v. v.worker) c.task.view_is))
