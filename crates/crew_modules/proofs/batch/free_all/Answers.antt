use Rattle.std.proofs.Common.{◌<◌, length, arith}
use Rattle.std.proofs.lemmas.Bool.Decides.{nat_tests}
use Rattle.crew_modules.proofs.Freeing.{freeing_more}
use Rattle.crew_modules.proofs.batch.free_all.Goals as goal

pub loop-at-preserved : goal.loop-at-preserved
loop-at-preserved g c =
    let test = c.loop-at-test.true in
    let low : c.loop-at.at < length c.args.names.now = grind (arith, nat_tests, test) in
    freeing_more c.args.task.now c.args.lock.now c.args.names.now c.args.pass.now c.loop-at.at c.loop-at.pass c.free_name.new.pass low c.loop-at.invariant c.free_name.ensures.step c.free_name.ensures.fits
