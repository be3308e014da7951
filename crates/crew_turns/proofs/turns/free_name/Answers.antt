use Rattle.std.proofs.Common.{ap, sym, subst, inr}
use Rattle.build_core.specs.declared.event.Event.TheVariants as event
use Rattle.event_core.specs.declared.entry.Carried.TheVariants as carried
use Rattle.board.specs.Builds.{MayCome}
use Rattle.crew_turns.specs.Seen.{start_by}
use Rattle.crew_turns.proofs.Taken.{adds, itself, may_free, one_more, step_fits, stepped}
use Rattle.crew_turns.proofs.Turning.{free_fits}
use Rattle.crew_turns.proofs.turns.free_name.Goals as goal

pub free-requires : goal.free-requires
free-requires g c =
    let t = c.args.task.now in
    record {
      may =
          subst (λ k. MayCome c.taken-value.result (event.Free k c.args.name)) (sym (ap (λ v. v.worker) c.task.view_is))
          (may_free t.plan c.args.lock.now t.worker c.args.pass.now c.requires.of c.taken-value.result (c.taken-value.ensures.out t.plan t.worker c.requires.of) c.args.name c.requires.held);
    }

pub give-requires-clause-taken : goal.give-requires-clause-taken
give-requires-clause-taken g c =
    let t = c.args.task.now in
    let b = c.taken-value.result in
    adds t.plan c.args.lock.now t.worker c.args.pass.now c.requires.of b (c.taken-value.ensures.out t.plan t.worker c.requires.of) (event.Free t.worker c.args.name) carried.Nothing c.free.new.self.log
    (one_more b c.free.new.self (λ k. event.Free k c.args.name) c.task.inside.worker t.worker c.free.ensures.entry (ap (λ v. v.worker) c.task.view_is)) c.taken-value.new.pass c.taken-value.ensures.pass (inr (itself t.worker))

pub returns-clause-step : goal.returns-clause-step
returns-clause-step g c =
    let t = c.args.task.now in
    let b = c.taken-value.result in
    let is = c.taken-value.ensures.out t.plan t.worker c.requires.of in
    stepped t.plan c.args.lock.now t.worker c.args.pass.now c.requires.of b is (event.Free t.worker c.args.name) carried.Nothing c.free.new.self.log
    (one_more b c.free.new.self (λ k. event.Free k c.args.name) c.task.inside.worker t.worker c.free.ensures.entry (ap (λ v. v.worker) c.task.view_is)) c.taken-value.new.pass c.give.new.pass c.taken-value.ensures.pass c.give.ensures
    (may_free t.plan c.args.lock.now t.worker c.args.pass.now c.requires.of b is c.args.name c.requires.held)

pub returns-clause-fits : goal.returns-clause-fits
returns-clause-fits g c =
    let t = c.args.task.now in
    let b = c.taken-value.result in
    let is = c.taken-value.ensures.out t.plan t.worker c.requires.of in
    λ told. step_fits t.plan c.args.lock.now t.worker c.args.pass.now c.requires.of b is (event.Free t.worker c.args.name) carried.Nothing c.free.new.self.log
    (one_more b c.free.new.self (λ k. event.Free k c.args.name) c.task.inside.worker t.worker c.free.ensures.entry (ap (λ v. v.worker) c.task.view_is)) c.taken-value.new.pass c.give.new.pass c.taken-value.ensures.pass c.give.ensures
    told (free_fits t.plan (start_by c.args.pass.now) told b.log t.worker c.args.name)
