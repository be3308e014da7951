use Rattle.std.proofs.Common.{◌≡◌, ◌<◌, ◌≤◌, true, length, get_or, arith, sym, ap, subst, ◌∙◌}
use Rattle.std.proofs.lemmas.Bool.Decides.{nat_tests}
use Rattle.build_core.specs.declared.event.Event.TheVariants as event
use Rattle.scripts.specs.declared.deed.Deed.TheVariants as deed
use Rattle.event_core.specs.Enabled.{is_due}
use Rattle.crew_turns.specs.Seen.{Steps, course_by}
use Rattle.crew_turns.specs.Tasks.{IsTask, stood_by}
use Rattle.crew_modules.proofs.Batches.{due_here, fits_here, taken_all, taking_more}
use Rattle.crew_modules.proofs.batch.take_batch.Goals as goal

pub take_name-found-requires-clause-due : goal.take_name-found-requires-clause-due
take_name-found-requires-clause-due g c =
    let t = c.args.task.now in
    let batch : c.as_slice-batch.result.now ≡ t.unit.batch = c.as_slice-batch.ensures ∙ ap (λ v. v.unit.batch) c.task.view_is in
    let test = c.loop-at-test.true in
    let low : c.loop-at.at < length c.as_slice-batch.result.now = grind (arith, nat_tests, test) in
    subst (λ names. is_due (course_by t.plan t.worker c.loop-at.pass) (deed.Take c.args.mode (get_or names c.loop-at.at 0)) ≡ true) (sym batch)
    (due_here t c.args.mode c.loop-at.at c.loop-at.pass (subst (λ names. c.loop-at.at < length names) batch low) c.loop-at.invariant.here)

pub take_name-found-requires-clause-fits : goal.take_name-found-requires-clause-fits
take_name-found-requires-clause-fits g c =
    let t = c.args.task.now in
    let batch : c.as_slice-batch.result.now ≡ t.unit.batch = c.as_slice-batch.ensures ∙ ap (λ v. v.unit.batch) c.task.view_is in
    let test = c.loop-at-test.true in
    let low : c.loop-at.at < length c.as_slice-batch.result.now = grind (arith, nat_tests, test) in
    fits_here t c.args.mode c.loop-at.at c.loop-at.pass (subst (λ names. c.loop-at.at < length names) batch low) c.loop-at.invariant.here (stood_by t c.loop-at.pass)

pub loop-at-preserved : goal.loop-at-preserved
loop-at-preserved g c =
    let t = c.args.task.now in
    let batch : c.as_slice-batch.result.now ≡ t.unit.batch = c.as_slice-batch.ensures ∙ ap (λ v. v.unit.batch) c.task.view_is in
    let test = c.loop-at-test.true in
    let low : c.loop-at.at < length c.as_slice-batch.result.now = grind (arith, nat_tests, test) in
    taking_more t c.args.lock.now c.args.mode c.args.pass.now c.loop-at.at c.look_from-from.result c.loop-at.found c.take_name-found.result c.loop-at.pass c.take_name-found.new.pass
    (subst (λ names. c.loop-at.at < length names) batch low) (λ last. c.look_from-from.ensures (last ∙ sym (ap length batch))) c.loop-at.invariant
    (subst (λ names. Steps t.plan c.args.lock.now t.worker (event.Take t.worker (get_or names c.loop-at.at 0) c.args.mode) c.loop-at.pass c.take_name-found.new.pass) batch c.take_name-found.ensures.step)
    c.take_name-found.ensures.absent c.take_name-found.ensures.fits

pub returns-clause-taken : goal.returns-clause-taken
returns-clause-taken g c =
    let t = c.args.task.now in
    let batch : c.as_slice-batch.result.now ≡ t.unit.batch = c.as_slice-batch.ensures ∙ ap (λ v. v.unit.batch) c.task.view_is in
    let test = c.loop-at-test.false in
    let high : length c.as_slice-batch.result.now ≤ c.loop-at.at = grind (arith, nat_tests, test) in
    let most : c.loop-at.at ≤ length c.as_slice-batch.result.now = omega (arith, c.loop-at.auto.at-end) in
    taken_all t c.args.lock.now c.args.mode c.args.pass.now c.loop-at.pass (subst IsTask c.task.view_is c.task.invariant) c.loop-at.at c.loop-at.found
    (subst (λ names. c.loop-at.at ≤ length names) batch most) (subst (λ names. length names ≤ c.loop-at.at) batch high) c.loop-at.invariant
