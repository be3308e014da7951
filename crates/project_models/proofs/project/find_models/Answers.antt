use Rattle.std.proofs.Common.{◌≡◌, Err, List, sym, subst, ◌∙◌}
use Rattle.pom_source.specs.Answers.{Says}
use Rattle.pom_source.specs.Worlds.{World}
use Rattle.pom_source.specs.declared.fault.BuildFault.TheVariants.{Memory}
use Rattle.effective.specs.Kept.{HoldsAll}
use Rattle.model_resolver.specs.Devices.{Counts, FitsTold, Told}
use Rattle.model_resolver.specs.Finding.{world_of}
use Rattle.model_resolver.specs.declared.resolver.ProjectPom.{ProjectPom}
use Rattle.model_resolver.proofs.Counting.{counted_none}
use Rattle.model_resolver.proofs.Finding.{told_fits}
use Rattle.project_models.specs.Found.{models_of}
use Rattle.project_models.proofs.Told.{told_any}
use Rattle.project_models.proofs.project.find_models.Goals as goal

pub returns-clause-says : goal.returns-clause-says
returns-clause-says g c =
    let told : Told = record { tree = g.T.Tree.files c.args.tree.now; shelf = g.S.Shelf.told c.args.shelf.now; remote = g.R.Remote.files c.args.remote.now } in
    let known : c.in-Ok.known ≡ c.args.poms.now = c.in-Ok.ensures ∙ c.as_slice-list.ensures in
    told_fits (g.T.Tree.files c.args.tree.now) (g.S.Shelf.told c.args.shelf.now) (g.R.Remote.files c.args.remote.now) c.args.poms.now
    (λ (world : World). HoldsAll world c.args.given.now c.args.store.now → Says (models_of world c.args.given.now c.args.poms.now) c.models_in-models.result)
    (λ world fits. subst (λ (poms : List ProjectPom). HoldsAll world c.args.given.now c.args.store.now → Says (models_of world c.args.given.now poms) c.models_in-models.result) c.as_slice-list.ensures
    (c.models_in-models.ensures.says world (subst (λ (poms : List ProjectPom). FitsTold told poms world) (sym known) fits)))

pub returns-clause-holds : goal.returns-clause-holds
returns-clause-holds g c =
    let told : Told = record { tree = g.T.Tree.files c.args.tree.now; shelf = g.S.Shelf.told c.args.shelf.now; remote = g.R.Remote.files c.args.remote.now } in
    let known : c.in-Ok.known ≡ c.args.poms.now = c.in-Ok.ensures ∙ c.as_slice-list.ensures in
    told_fits (g.T.Tree.files c.args.tree.now) (g.S.Shelf.told c.args.shelf.now) (g.R.Remote.files c.args.remote.now) c.args.poms.now
    (λ (world : World). HoldsAll world c.args.given.now c.args.store.now → HoldsAll world c.args.given.now c.models_in-models.new.store)
    (λ world fits. c.models_in-models.ensures.holds world (subst (λ (poms : List ProjectPom). FitsTold told poms world) (sym known) fits))

pub returns-in-Err-clause-says : goal.returns-in-Err-clause-says
returns-in-Err-clause-says g c =
    let poms = c.args.poms.now in
    let given = c.args.given.now in
    told_any (g.T.Tree.files c.args.tree.now) (g.S.Shelf.told c.args.shelf.now) (g.R.Remote.files c.args.remote.now)
    (λ x y z. HoldsAll (world_of poms x y z) given c.args.store.now → Says (models_of (world_of poms x y z) given poms) (Err Memory))
    (λ x y z holds. record {})

pub returns-in-Err-clause-holds : goal.returns-in-Err-clause-holds
returns-in-Err-clause-holds g c =
    told_any (g.T.Tree.files c.args.tree.now) (g.S.Shelf.told c.args.shelf.now) (g.R.Remote.files c.args.remote.now)
    (λ x y z. HoldsAll (world_of c.args.poms.now x y z) c.args.given.now c.args.store.now → HoldsAll (world_of c.args.poms.now x y z) c.args.given.now c.args.store.now)
    (λ x y z holds. holds)

pub returns-in-Err-clause-counted : goal.returns-in-Err-clause-counted
returns-in-Err-clause-counted g c =
    let counts : Counts = record { tree = g.T.Files.faults c.args.tree.now; shelf = g.S.Shelf.faults c.args.shelf.now; remote = g.R.Remote.faults c.args.remote.now } in
    counted_none c.args.failures.now.first counts
