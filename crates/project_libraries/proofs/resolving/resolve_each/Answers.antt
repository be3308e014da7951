use Rattle.std.proofs.Common.{◌≡◌, ◌+◌, ◌++◌, ◌∷◌, [], length, length-append, slice_get, take, Some, Ok, Err, refl, sym, ap, subst, arith, ◌∙◌}
use Rattle.mediation.proofs.Telling.{told_both}
use Rattle.project_libraries.specs.Resolving.{AreResolved, ResolvesModule}
use Rattle.std.proofs.lemmas.Option.{slice_get_read}
use Rattle.project_libraries.proofs.Modules.{all_resolved, refused_here, resolved_more}
use Rattle.project_libraries.proofs.resolving.resolve_each.Goals as goal

pub loop-at-preserved : goal.loop-at-preserved
loop-at-preserved g c =
    let inv = c.loop-at.invariant in
    let at = c.loop-at.at in
    let m = c.index-models-at.result in
    let here : slice_get c.args.models.now at ≡ Some m = slice_get_read c.args.models.now (length c.args.models.now) at m refl c.loop-at-test.true c.index-models-at.is in
    record {
      done = λ libraries fits.
          subst (λ l. AreResolved libraries (take (at + 1) c.args.models.now) l) (sym c.in_ok-push-in-Ok.ensures.ok)
          (resolved_more libraries c.args.models.now c.loop-at.list at m c.in-Ok.resolution (inv.done libraries fits) here
          (subst (λ o. ResolvesModule libraries c.index-poms-at.result o (Ok c.in-Ok.resolution)) c.value.ensures (c.in-Ok.ensures.resolves libraries (inv.fit libraries fits))));
      fit = λ libraries fits. c.in-Ok.ensures.same libraries (inv.fit libraries fits);
      alike = told_both inv.alike c.in-Ok.ensures.alike;
      long =
          let is = ap length c.in_ok-push-in-Ok.ensures.ok in
          let both = length-append c.loop-at.list (c.in-Ok.resolution ∷ []) in
          let before = inv.long in
          omega (arith, is, both, before);
      few = let low = c.loop-at-test.true in omega (arith, low);
      faults = c.in-Ok.ensures.cause ∙ inv.faults;
    }

pub returns-in-Err-clause-resolves : goal.returns-in-Err-clause-resolves
returns-in-Err-clause-resolves g c = λ libraries fits.
    let inv = c.loop-at.invariant in
    let at = c.loop-at.at in
    let m = c.index-models-at.result in
    let pom = c.index-poms-at.result in
    refused_here libraries c.args.poms.now c.args.models.now c.loop-at.list at pom m c.in-Err.fault
    (slice_get_read c.args.poms.now (length c.args.models.now) at pom c.requires.paired c.loop-at-test.true c.index-poms-at.is)
    (slice_get_read c.args.models.now (length c.args.models.now) at m refl c.loop-at-test.true c.index-models-at.is) (inv.done libraries fits)
    (subst (λ o. ResolvesModule libraries pom o (Err c.in-Err.fault)) c.value.ensures (c.in-Err.ensures.resolves libraries (inv.fit libraries fits)))

pub returns-clause-resolves : goal.returns-clause-resolves
returns-clause-resolves g c = λ libraries fits.
    all_resolved libraries c.args.models.now c.loop-at.list c.loop-at.at (omega (arith, c.loop-at-test.false)) (c.loop-at.invariant.done libraries fits)

pub returns-clause-long : goal.returns-clause-long
returns-clause-long g c =
    let before = c.loop-at.invariant.long in
    let few = c.loop-at.invariant.few in
    let far = c.loop-at-test.false in
    omega (arith, before, few, far)
