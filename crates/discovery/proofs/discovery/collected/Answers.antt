use Rattle.std.proofs.Common.{◌≡◌, ◌+◌, ◌-◌, suc, refl, sym, subst, ◌∙◌, arith}
use Rattle.mvn_base.specs.Limits.{most_modules}
use Rattle.profiles.specs.Judging.TellsOn.{here}
use Rattle.pom_source.specs.Answers.{Fails}
use Rattle.lineage.proofs.Telling.{told_both}
use Rattle.discovery.proofs.Collecting.{collected_step, full_fails}
use Rattle.discovery.proofs.discovery.collected.Goals as goal

pub loop-init : goal.loop-init
loop-init g c = (λ world fits. fits, here c.args.source.now, refl, λ path found there. there, λ origin there. there, λ world fits holds. (holds, refl), omega arith, omega arith)

pub loop-preserved : goal.loop-preserved
loop-preserved g c =
    let inv = c.loop.invariant in
    let lt = c.loop-test.true in (
      λ world fits. c.in-Ok.ensures.fit world (inv.0 world fits),
      told_both inv.1 c.in-Ok.ensures.same,
      c.in-Ok.ensures.cause ∙ inv.2,
      λ path found there. c.in-Ok.ensures.keeps path found (inv.3 path found there),
      λ origin there. c.in-Ok.ensures.keeps_lines origin (inv.4 origin there),
      λ world fits holds.
          let told = inv.5 world fits holds in
          let one : most_modules - c.loop.counter ≡ suc (most_modules - (c.loop.counter + 1)) = omega (arith, lt) in (
            c.in-Ok.ensures.holds world (inv.0 world fits) told.0,
            sym (collected_step world c.args.given.now (most_modules - c.loop.counter) (most_modules - (c.loop.counter + 1)) c.loop.progress.found c.loop.progress.waiting c.in-Some.waiting c.in-Some.listed c.in-Ok.progress one c.in-Some.ensures (c.in-Ok.ensures.says world (inv.0 world fits) told.0))
                ∙ told.1,
          ),
      omega (arith, c.in-Ok.ensures.one, inv.6),
      omega (arith, lt),
    )

pub returns-in-Err-with_none-clause-says : goal.returns-in-Err-with_none-clause-says
returns-in-Err-with_none-clause-says g c = λ world fits holds.
    let inv = c.loop.invariant in
    let over = c.loop-test.false in
    let told = inv.5 world fits holds in
    let none : most_modules - c.loop.counter ≡ 0 = omega (arith, over) in
    subst (λ said. Fails said c.in-Err-with_none.fault) told.1
    (full_fails world c.args.given.now (most_modules - c.loop.counter) c.loop.progress.found c.loop.progress.waiting c.in-Err-with_none.fault none (c.in-Err-with_none.ensures.says world c.args.given.now (inv.0 world fits) told.0))

pub returns-in-Err-clause-keeps : goal.returns-in-Err-clause-keeps
returns-in-Err-clause-keeps g c = λ path found there. c.in-Err.ensures.keeps path found (c.loop.invariant.3 path found there)
