use Rattle.std.proofs.Common.{◌≡◌, List, sym, ap, subst}
use Rattle.std.specs.HashMap.{get}
use Rattle.mvn_outside.specs.Shelf.{files_now}
use Rattle.mvn_base.specs.Gav.{gav_eq}
use Rattle.effective.specs.Kept.{HoldsAll}
use Rattle.model_resolver.specs.Finding.{world_of}
use Rattle.model_resolver.specs.declared.resolver.ProjectPom.{ProjectPom}
use Rattle.project_libraries.specs.Known.{libraries_of}
use Rattle.project_libraries.specs.Resolving.{Resolves}
use Rattle.project_libraries.proofs.Keeping.{modules_known}
use Rattle.project_libraries.proofs.Running.{all_told, told_three}
use Rattle.project_libraries.proofs.resolving.resolve_modules.Goals as goal

pub returns-clause-says : goal.returns-clause-says
returns-clause-says g c =
    let tree = g.T.Tree.files c.args.tree.now in
    let shelf = g.S.Shelf.told c.args.shelf.now in
    let remote = g.R.Remote.files c.args.remote.now in
    let known : c.in-Ok-of.known ≡ c.args.poms.now = c.in-Ok-of.ensures in
    all_told tree shelf remote
    (λ files local there. HoldsAll (world_of c.args.poms.now files local there) c.args.given.now c.args.store.now
    → Resolves (libraries_of files local there c.args.given.now c.args.poms.now c.args.models.now) c.args.poms.now c.args.models.now c.resolve_kept-found.result)
    (λ files told there a b d holds. c.resolve_kept-found.ensures.resolves (libraries_of files (files_now told) there c.args.given.now c.args.poms.now c.args.models.now)
    (record {
      tree = files;
      shelf = told;
      remote = there;
      told_so = told_three tree shelf remote files told there a b d;
      holds = subst (λ (poms : List ProjectPom). HoldsAll (world_of poms files (files_now told) there) c.args.given.now c.args.store.now) (sym known) holds;
      keeps = modules_known (world_of c.in-Ok-of.known files (files_now told) there) c.args.given.now c.args.models.now (get gav_eq c.in-Ok.memo) c.in-Ok.ensures;
      is = ap (λ (poms : List ProjectPom). libraries_of files (files_now told) there c.args.given.now poms c.args.models.now) (sym known);
    }))
