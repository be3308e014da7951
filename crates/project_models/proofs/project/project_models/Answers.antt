use Rattle.std.proofs.Common.{◌≡◌, ℕ, [], Ok, Err, IfOk}
use Rattle.pom_source.specs.Answers.{Says}
use Rattle.pom_source.specs.Chains.{stop_fails}
use Rattle.lineage.specs.Stores.{Holds}
use Rattle.effective.specs.Kept.{HoldsAll}
use Rattle.model_resolver.specs.Devices.{Counts}
use Rattle.model_resolver.specs.Finding.{world_of}
use Rattle.model_resolver.proofs.Counting.{counted_twice}
use Rattle.project_models.specs.Found.{project_poms}
use Rattle.project_models.specs.Models.{Gives, modules_of, project_models}
use Rattle.project_models.specs.declared.project.ProjectModels.{ProjectModels}
use Rattle.project_models.proofs.Giving.{gives_on}
use Rattle.project_models.proofs.Told.{told_any, told_one, told_same, told_two}
use Rattle.project_models.proofs.project.project_models.Goals as goal

pub returns-in-Ok-clause-says : goal.returns-in-Ok-clause-says
unfolding project_models
returns-in-Ok-clause-says g c =
    let a = g.T.Tree.files c.args.tree.now in
    let b = g.S.Shelf.told c.args.shelf.now in
    let d = g.R.Remote.files c.args.remote.now in
    let poms = c.in-Ok.poms in
    let given = c.args.given.now in
    let store = c.find_poms.new.store in
    told_two a b d
    (λ x y z. (project_poms (world_of [] x y z) given ≡ Ok poms) × Holds (world_of [] x y z) given store)
    (λ x y z. Holds (world_of [] x y z) given store → project_poms (world_of [] x y z) given ≡ Ok poms → Gives (modules_of x y z given poms) c.with_poms.result)
    (λ x y z. Gives (project_models x y z given) c.with_poms.result)
    (λ x y z first next. gives_on (project_poms (world_of [] x y z) given) (modules_of x y z given) poms c.with_poms.result first.0 (next first.1 first.0))
    (told_two a b d
    (λ x y z. Holds (world_of [] x y z) given c.new-store.result → Says (project_poms (world_of [] x y z) given) (Ok poms))
    (λ x y z. Holds (world_of [] x y z) given c.new-store.result → Holds (world_of [] x y z) given store)
    (λ x y z. (project_poms (world_of [] x y z) given ≡ Ok poms) × Holds (world_of [] x y z) given store)
    (λ x y z said kept. (said (c.new-store.ensures (world_of [] x y z) given), kept (c.new-store.ensures (world_of [] x y z) given)))
    c.in-Ok.ensures.says c.in-Ok.ensures.holds)
    (told_same a (g.T.Tree.files c.find_poms.new.tree) b (g.S.Shelf.told c.find_poms.new.shelf) d (g.R.Remote.files c.find_poms.new.remote)
    (λ x y z. Holds (world_of [] x y z) given store → project_poms (world_of [] x y z) given ≡ Ok poms → Gives (modules_of x y z given poms) c.with_poms.result)
    c.in-Ok.ensures.tree c.in-Ok.ensures.shelf c.in-Ok.ensures.remote c.with_poms.ensures.says)

pub returns-in-Err-clause-says : goal.returns-in-Err-clause-says
unfolding project_models
returns-in-Err-clause-says g c =
    let given = c.args.given.now in
    told_one (g.T.Tree.files c.args.tree.now) (g.S.Shelf.told c.args.shelf.now) (g.R.Remote.files c.args.remote.now)
    (λ x y z. Holds (world_of [] x y z) given c.new-store.result → Says (project_poms (world_of [] x y z) given) (Err c.in-Err.fault))
    (λ x y z. Gives (project_models x y z given) (Err c.in-Err.fault))
    (λ x y z said. stop_fails (project_poms (world_of [] x y z) given) (modules_of x y z given) c.in-Err.fault (said (c.new-store.ensures (world_of [] x y z) given)))
    c.in-Err.ensures.says

pub returns-in-Ok-clause-holds : goal.returns-in-Ok-clause-holds
returns-in-Ok-clause-holds g c =
    let a = g.T.Tree.files c.args.tree.now in
    let b = g.S.Shelf.told c.args.shelf.now in
    let d = g.R.Remote.files c.args.remote.now in
    let poms = c.in-Ok.poms in
    let given = c.args.given.now in
    let store = c.find_poms.new.store in
    told_two a b d
    (λ x y z. (project_poms (world_of [] x y z) given ≡ Ok poms) × Holds (world_of [] x y z) given store)
    (λ x y z. Holds (world_of [] x y z) given store → project_poms (world_of [] x y z) given ≡ Ok poms
    → IfOk c.with_poms.result (λ (found : ProjectModels). HoldsAll (world_of found.poms x y z) given found.store))
    (λ x y z. IfOk c.with_poms.result (λ (found : ProjectModels). HoldsAll (world_of found.poms x y z) given found.store))
    (λ x y z first next. next first.1 first.0)
    (told_two a b d
    (λ x y z. Holds (world_of [] x y z) given c.new-store.result → Says (project_poms (world_of [] x y z) given) (Ok poms))
    (λ x y z. Holds (world_of [] x y z) given c.new-store.result → Holds (world_of [] x y z) given store)
    (λ x y z. (project_poms (world_of [] x y z) given ≡ Ok poms) × Holds (world_of [] x y z) given store)
    (λ x y z said kept. (said (c.new-store.ensures (world_of [] x y z) given), kept (c.new-store.ensures (world_of [] x y z) given)))
    c.in-Ok.ensures.says c.in-Ok.ensures.holds)
    (told_same a (g.T.Tree.files c.find_poms.new.tree) b (g.S.Shelf.told c.find_poms.new.shelf) d (g.R.Remote.files c.find_poms.new.remote)
    (λ x y z. Holds (world_of [] x y z) given store → project_poms (world_of [] x y z) given ≡ Ok poms
    → IfOk c.with_poms.result (λ (found : ProjectModels). HoldsAll (world_of found.poms x y z) given found.store))
    c.in-Ok.ensures.tree c.in-Ok.ensures.shelf c.in-Ok.ensures.remote c.with_poms.ensures.holds)

pub returns-in-Err-clause-holds : goal.returns-in-Err-clause-holds
returns-in-Err-clause-holds g c =
    told_any (g.T.Tree.files c.args.tree.now) (g.S.Shelf.told c.args.shelf.now) (g.R.Remote.files c.args.remote.now)
    (λ x y z. IfOk (Err c.in-Err.fault) (λ (found : ProjectModels). HoldsAll (world_of found.poms x y z) c.args.given.now found.store))
    (λ x y z. tt)

pub returns-in-Ok-clause-counted : goal.returns-in-Ok-clause-counted
returns-in-Ok-clause-counted g c =
    let counts : ℕ → ℕ → ℕ → Counts = λ t s r. record { tree = t; shelf = s; remote = r } in
    counted_twice c.args.failures.now.first c.find_poms.new.failures.first c.with_poms.new.failures.first
    (counts (g.T.Files.faults c.args.tree.now) (g.S.Shelf.faults c.args.shelf.now) (g.R.Remote.faults c.args.remote.now))
    (counts (g.T.Files.faults c.find_poms.new.tree) (g.S.Shelf.faults c.find_poms.new.shelf) (g.R.Remote.faults c.find_poms.new.remote))
    (counts (g.T.Files.faults c.with_poms.new.tree) (g.S.Shelf.faults c.with_poms.new.shelf) (g.R.Remote.faults c.with_poms.new.remote))
    c.in-Ok.ensures.counted c.with_poms.ensures.counted
