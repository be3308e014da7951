use Rattle.std.proofs.Common.{◌≡◌, refl, inl, ap, subst, IfOk}
use Rattle.build_core.specs.OneThread.{output_of}
use Rattle.run_law.specs.Given.{outputs_after}
use Rattle.crew_turns.specs.Seen.{Told, view}
use Rattle.crew_turns.proofs.Nexts.{no_fits, no_step, same_come}
use Rattle.crew_turns.proofs.Results.{seen_is}
use Rattle.crew_turns.proofs.events.copy_output.Goals as goal

pub give-requires-clause-taken : goal.give-requires-clause-taken
give-requires-clause-taken g c = (c.taken-value.result.log, ap (λ (p : Told). (view p).turn) c.taken-value.ensures.pass, inl refl)

pub returns-clause-turn : goal.returns-clause-turn
returns-clause-turn g c =
    let t = c.args.task.now in
    let b = c.taken-value.result in
    let is = c.taken-value.ensures.out t.plan t.worker c.requires.of in
    no_step t.plan c.args.lock.now t.worker c.args.pass.now c.requires.of b is b c.taken-value.new.pass c.give.new.pass c.taken-value.ensures.pass c.give.ensures is.run
    (same_come t.plan c.args.lock.now t.worker c.args.pass.now c.requires.of b is b c.taken-value.new.pass c.give.new.pass c.taken-value.ensures.pass c.give.ensures is.run refl)

pub returns-clause-bytes : goal.returns-clause-bytes
returns-clause-bytes g c =
    let t = c.args.task.now in
    let b = c.taken-value.result in
    let is = c.taken-value.ensures.out t.plan t.worker c.requires.of in
    subst (λ log. IfOk c.output_in-copied.result (λ bytes. bytes ≡ output_of (outputs_after t.plan log c.args.number) c.args.slot)) (seen_is c.args.pass.now b.log b.log c.taken-value.new.pass c.give.new.pass c.taken-value.ensures.pass c.give.ensures)
    (subst (λ p. IfOk c.output_in-copied.result (λ bytes. bytes ≡ output_of (outputs_after p b.log c.args.number) c.args.slot)) is.plan_is c.output_in-copied.ensures)

pub returns-clause-fits : goal.returns-clause-fits
returns-clause-fits g c =
    let t = c.args.task.now in
    let b = c.taken-value.result in
    let is = c.taken-value.ensures.out t.plan t.worker c.requires.of in
    no_fits t.plan c.args.lock.now t.worker c.args.pass.now c.requires.of b is b c.taken-value.new.pass c.give.new.pass c.taken-value.ensures.pass c.give.ensures is.run
    (same_come t.plan c.args.lock.now t.worker c.args.pass.now c.requires.of b is b c.taken-value.new.pass c.give.new.pass c.taken-value.ensures.pass c.give.ensures is.run refl)
