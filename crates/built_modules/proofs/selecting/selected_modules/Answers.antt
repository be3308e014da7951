use Rattle.std.proofs.Common.{sym, subst}
use Rattle.built_modules.specs.Picks.{ArePicked}
use Rattle.built_modules.specs.Selected.{AreModules}
use Rattle.built_modules.proofs.Parting.{are_modules}
use Rattle.built_modules.proofs.selecting.selected_modules.Goals as goal

pub returns : goal.returns
returns c =
    let some_poms = subst (λ places. ArePicked c.args.poms places c.in_ok-poms.poms) c.as_slice-numbers.ensures c.in_ok-poms.ensures in
    let some_models = subst (λ places. ArePicked c.args.models places c.in_ok-models.models) c.as_slice-numbers.ensures c.in_ok-models.ensures in
    let some_resolutions = subst (λ places. ArePicked c.args.resolutions places c.in_ok-resolutions.resolutions) c.as_slice-numbers.ensures c.in_ok-resolutions.ensures in
    subst (AreModules c.args.poms c.args.models c.args.resolutions c.args.built c.args.sources) (sym c.in_ok-modules.ensures)
    (are_modules c.args.poms c.in_ok-poms.poms c.args.models c.in_ok-models.models c.args.resolutions c.in_ok-resolutions.resolutions c.args.built c.args.sources
    some_poms some_models some_resolutions c.requires.upstreams c.requires.sources)
