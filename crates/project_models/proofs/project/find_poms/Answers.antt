use Rattle.std.proofs.Common.{◌≡◌, [], Err, List, sym, subst, ◌∙◌}
use Rattle.pom_source.specs.Answers.{Says}
use Rattle.pom_source.specs.Worlds.{World}
use Rattle.pom_source.specs.declared.fault.BuildFault.TheVariants.{Memory}
use Rattle.lineage.specs.Stores.{Holds}
use Rattle.model_resolver.specs.Devices.{Counts, FitsTold, Told}
use Rattle.model_resolver.specs.Finding.{world_of}
use Rattle.model_resolver.specs.declared.resolver.ProjectPom.{ProjectPom}
use Rattle.model_resolver.proofs.Counting.{counted_none}
use Rattle.model_resolver.proofs.Finding.{told_fits}
use Rattle.project_models.specs.Found.{project_poms}
use Rattle.project_models.proofs.Told.{told_any}
use Rattle.project_models.proofs.project.find_poms.Goals as goal

pub returns-clause-says : goal.returns-clause-says
returns-clause-says g c =
    let told : Told = record { tree = g.T.Tree.files c.args.tree.now; shelf = g.S.Shelf.told c.args.shelf.now; remote = g.R.Remote.files c.args.remote.now } in
    let known : c.in-Ok.known ≡ [] = c.in-Ok.ensures ∙ c.as_slice.ensures ∙ c.new-none.ensures in
    told_fits (g.T.Tree.files c.args.tree.now) (g.S.Shelf.told c.args.shelf.now) (g.R.Remote.files c.args.remote.now) []
    (λ (world : World). Holds world c.args.given.now c.args.store.now → Says (project_poms world c.args.given.now) c.poms_in-poms.result)
    (λ world fits. c.poms_in-poms.ensures.says world (subst (λ (poms : List ProjectPom). FitsTold told poms world) (sym known) fits))

pub returns-clause-holds : goal.returns-clause-holds
returns-clause-holds g c =
    let told : Told = record { tree = g.T.Tree.files c.args.tree.now; shelf = g.S.Shelf.told c.args.shelf.now; remote = g.R.Remote.files c.args.remote.now } in
    let known : c.in-Ok.known ≡ [] = c.in-Ok.ensures ∙ c.as_slice.ensures ∙ c.new-none.ensures in
    told_fits (g.T.Tree.files c.args.tree.now) (g.S.Shelf.told c.args.shelf.now) (g.R.Remote.files c.args.remote.now) []
    (λ (world : World). Holds world c.args.given.now c.args.store.now → Holds world c.args.given.now c.poms_in-poms.new.store)
    (λ world fits. c.poms_in-poms.ensures.holds world (subst (λ (poms : List ProjectPom). FitsTold told poms world) (sym known) fits))

pub returns-in-Err-clause-says : goal.returns-in-Err-clause-says
returns-in-Err-clause-says g c =
    let given = c.args.given.now in
    told_any (g.T.Tree.files c.args.tree.now) (g.S.Shelf.told c.args.shelf.now) (g.R.Remote.files c.args.remote.now)
    (λ x y z. Holds (world_of [] x y z) given c.args.store.now → Says (project_poms (world_of [] x y z) given) (Err Memory))
    (λ x y z holds. record {})

pub returns-in-Err-clause-holds : goal.returns-in-Err-clause-holds
returns-in-Err-clause-holds g c =
    told_any (g.T.Tree.files c.args.tree.now) (g.S.Shelf.told c.args.shelf.now) (g.R.Remote.files c.args.remote.now)
    (λ x y z. Holds (world_of [] x y z) c.args.given.now c.args.store.now → Holds (world_of [] x y z) c.args.given.now c.args.store.now)
    (λ x y z holds. holds)

pub returns-in-Err-clause-counted : goal.returns-in-Err-clause-counted
returns-in-Err-clause-counted g c =
    let counts : Counts = record { tree = g.T.Files.faults c.args.tree.now; shelf = g.S.Shelf.faults c.args.shelf.now; remote = g.R.Remote.faults c.args.remote.now } in
    counted_none c.args.failures.now.first counts
