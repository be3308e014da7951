use Rattle.std.proofs.Common.{◌≡◌, [], Ok, Err, IfOk}
use Rattle.pom_source.specs.declared.fault.BuildFault.TheVariants.{Memory}
use Rattle.lineage.specs.Stores.{Holds}
use Rattle.effective.specs.Kept.{HoldsAll}
use Rattle.model_resolver.specs.Devices.{Counts}
use Rattle.model_resolver.specs.Finding.{world_of}
use Rattle.model_resolver.proofs.Counting.{counted_none}
use Rattle.project_models.specs.Found.{project_poms}
use Rattle.project_models.specs.Models.{Gives, modules_of}
use Rattle.project_models.specs.declared.project.ProjectModels.{ProjectModels}
use Rattle.project_models.proofs.Told.{told_any}
use Rattle.project_models.proofs.project.with_poms.Goals as goal

pub returns-in-Err-clause-says : goal.returns-in-Err-clause-says
returns-in-Err-clause-says g c =
    let poms = c.args.poms in
    let given = c.args.given.now in
    told_any (g.T.Tree.files c.args.tree.now) (g.S.Shelf.told c.args.shelf.now) (g.R.Remote.files c.args.remote.now)
    (λ x y z. Holds (world_of [] x y z) given c.args.store → project_poms (world_of [] x y z) given ≡ Ok poms → Gives (modules_of x y z given poms) (Err Memory))
    (λ x y z holds said. record {})

pub returns-in-Err-clause-holds : goal.returns-in-Err-clause-holds
returns-in-Err-clause-holds g c =
    let poms = c.args.poms in
    let given = c.args.given.now in
    told_any (g.T.Tree.files c.args.tree.now) (g.S.Shelf.told c.args.shelf.now) (g.R.Remote.files c.args.remote.now)
    (λ x y z. Holds (world_of [] x y z) given c.args.store → project_poms (world_of [] x y z) given ≡ Ok poms
    → IfOk (Err Memory) (λ (found : ProjectModels). HoldsAll (world_of found.poms x y z) given found.store))
    (λ x y z holds said. tt)

pub returns-in-Err-clause-counted : goal.returns-in-Err-clause-counted
returns-in-Err-clause-counted g c =
    let counts : Counts = record { tree = g.T.Files.faults c.args.tree.now; shelf = g.S.Shelf.faults c.args.shelf.now; remote = g.R.Remote.faults c.args.remote.now } in
    counted_none c.args.failures.now.first counts
