use Rattle.std.proofs.Common.{ap, sym, subst, Some, ◌∙◌}
use Rattle.event_core.specs.Runs.{IsRunOf}
use Rattle.crew_turns.specs.Seen.{Told, view}
use Rattle.crew_turns.specs.Taken.{opened_of}
use Rattle.crew_turns.proofs.Nexts.{adds_next, idle_here, is_in, low_worker, same_opened, same_plan, told, told_fits}
use Rattle.crew_turns.proofs.turns.next_task.Goals as goal

pub start-next-requires : goal.start-next-requires
start-next-requires g c =
    let plan = c.args.plan.now in
    let b = c.taken-value.result in
    let is = c.taken-value.ensures.out plan c.args.worker c.requires.of in
    record {
      worker = low_worker plan c.args.lock.now c.args.worker c.args.pass.now c.requires.of b is;
      idle = idle_here plan c.args.lock.now c.args.worker c.args.pass.now c.requires.of b is c.requires.idle;
    }

pub give-requires-clause-taken : goal.give-requires-clause-taken
give-requires-clause-taken g c =
    let plan = c.args.plan.now in
    adds_next plan c.args.lock.now c.args.worker c.args.pass.now c.requires.of c.taken-value.result (c.taken-value.ensures.out plan c.args.worker c.requires.of) c.start-next.new.self c.taken-value.new.pass c.taken-value.new.pass c.taken-value.ensures.pass c.start-next.result c.start-next.ensures.entry

pub give-requires-clause-fixed : goal.give-requires-clause-fixed
give-requires-clause-fixed g c =
    ap Some (ap (opened_of g.S.Shelf.told g.S.Shelf.faults) c.start-next.ensures.entry ∙ same_opened g.S.Shelf.told g.S.Shelf.faults c.taken-value.result c.args.worker c.start-next.result)
    ∙ c.taken-value.ensures.fixed ∙ sym (ap (λ (p : Told). (view p).fixed) c.taken-value.ensures.pass)

pub give-requires-clause-workers : goal.give-requires-clause-workers
give-requires-clause-workers g c =
    ap (λ b. b.plan.workers) c.start-next.ensures.entry ∙ ap (λ p. p.workers) (same_plan c.taken-value.result c.args.worker c.start-next.result)
    ∙ c.taken-value.ensures.workers ∙ sym (ap (λ (p : Told). (view p).workers) c.taken-value.ensures.pass)

pub assigned_by-requires : goal.assigned_by-requires
assigned_by-requires g c =
    let plan = c.args.plan.now in
    let b = c.taken-value.result in
    let is = c.taken-value.ensures.out plan c.args.worker c.requires.of in
    let run = subst (λ p. IsRunOf p c.start-next.new.self.log) (ap (λ b. b.plan) c.start-next.ensures.entry ∙ same_plan b c.args.worker c.start-next.result ∙ is.plan_is) c.keeps.ensures.run in
    record {
      within =
          is_in plan c.args.lock.now c.args.worker c.args.pass.now c.give.new.pass c.start-next.result
          (told plan c.args.lock.now c.args.worker c.args.pass.now c.requires.of b is c.start-next.new.self c.taken-value.new.pass c.give.new.pass c.taken-value.ensures.pass c.give.ensures run c.start-next.result c.start-next.ensures.next c.start-next.ensures.entry c.requires.idle);
    }

pub returns-clause-turn : goal.returns-clause-turn
returns-clause-turn g c =
    let plan = c.args.plan.now in
    let b = c.taken-value.result in
    let is = c.taken-value.ensures.out plan c.args.worker c.requires.of in
    let run = subst (λ p. IsRunOf p c.start-next.new.self.log) (ap (λ b. b.plan) c.start-next.ensures.entry ∙ same_plan b c.args.worker c.start-next.result ∙ is.plan_is) c.keeps.ensures.run in
    c.assigned_by.ensures.told c.args.lock.now c.args.pass.now c.give.new.pass
    (told plan c.args.lock.now c.args.worker c.args.pass.now c.requires.of b is c.start-next.new.self c.taken-value.new.pass c.give.new.pass c.taken-value.ensures.pass c.give.ensures run c.start-next.result c.start-next.ensures.next c.start-next.ensures.entry c.requires.idle)

pub returns-clause-fits : goal.returns-clause-fits
returns-clause-fits g c =
    let plan = c.args.plan.now in
    let b = c.taken-value.result in
    let is = c.taken-value.ensures.out plan c.args.worker c.requires.of in
    let run = subst (λ p. IsRunOf p c.start-next.new.self.log) (ap (λ b. b.plan) c.start-next.ensures.entry ∙ same_plan b c.args.worker c.start-next.result ∙ is.plan_is) c.keeps.ensures.run in
    told_fits plan c.args.lock.now c.args.worker c.args.pass.now c.requires.of b is c.start-next.new.self c.taken-value.new.pass c.give.new.pass c.taken-value.ensures.pass c.give.ensures run c.start-next.result c.start-next.ensures.entry
