use Rattle.std.proofs.Common.{Ok, Err, IfOk}
use Rattle.pom_source.specs.Answers.{Says}
use Rattle.pom_source.specs.Chains.{stop_fails}
use Rattle.effective.specs.Kept.{HoldsAll}
use Rattle.model_resolver.specs.Finding.{world_of}
use Rattle.project_models.specs.Found.{models_of}
use Rattle.project_models.specs.Models.{Gives, modules_of, single}
use Rattle.project_models.specs.declared.project.ProjectModels.{ProjectModels}
use Rattle.project_models.proofs.Giving.{gives_on, holds_on}
use Rattle.project_models.proofs.Told.{told_any, told_one}
use Rattle.project_models.proofs.project.over_store.Goals as goal

pub returns-in-Ok-clause-says : goal.returns-in-Ok-clause-says
returns-in-Ok-clause-says g c =
    let poms = c.args.poms in
    let given = c.args.given.now in
    told_one (g.T.Tree.files c.args.tree.now) (g.S.Shelf.told c.args.shelf.now) (g.R.Remote.files c.args.remote.now)
    (λ x y z. HoldsAll (world_of poms x y z) given c.args.store → Says (models_of (world_of poms x y z) given poms) (Ok c.in-Ok.models))
    (λ x y z. HoldsAll (world_of poms x y z) given c.args.store → Gives (modules_of x y z given poms) c.single.result)
    (λ x y z said holds. gives_on (models_of (world_of poms x y z) given poms) (single poms) c.in-Ok.models c.single.result (said holds) c.single.ensures.says)
    c.in-Ok.ensures.says

pub returns-in-Err-clause-says : goal.returns-in-Err-clause-says
returns-in-Err-clause-says g c =
    let poms = c.args.poms in
    let given = c.args.given.now in
    told_one (g.T.Tree.files c.args.tree.now) (g.S.Shelf.told c.args.shelf.now) (g.R.Remote.files c.args.remote.now)
    (λ x y z. HoldsAll (world_of poms x y z) given c.args.store → Says (models_of (world_of poms x y z) given poms) (Err c.in-Err.fault))
    (λ x y z. HoldsAll (world_of poms x y z) given c.args.store → Gives (modules_of x y z given poms) (Err c.in-Err.fault))
    (λ x y z said holds. stop_fails (models_of (world_of poms x y z) given poms) (single poms) c.in-Err.fault (said holds))
    c.in-Err.ensures.says

pub returns-in-Ok-clause-holds : goal.returns-in-Ok-clause-holds
returns-in-Ok-clause-holds g c =
    let poms = c.args.poms in
    let given = c.args.given.now in
    told_one (g.T.Tree.files c.args.tree.now) (g.S.Shelf.told c.args.shelf.now) (g.R.Remote.files c.args.remote.now)
    (λ x y z. HoldsAll (world_of poms x y z) given c.args.store → HoldsAll (world_of poms x y z) given c.find_models.new.store)
    (λ x y z. HoldsAll (world_of poms x y z) given c.args.store → IfOk c.single.result (λ (found : ProjectModels). HoldsAll (world_of found.poms x y z) given found.store))
    (λ x y z kept holds. holds_on c.single.result poms c.find_models.new.store (λ l. world_of l x y z) given c.single.ensures.poms c.single.ensures.store (kept holds))
    c.in-Ok.ensures.holds

pub returns-in-Err-clause-holds : goal.returns-in-Err-clause-holds
returns-in-Err-clause-holds g c =
    let poms = c.args.poms in
    told_any (g.T.Tree.files c.args.tree.now) (g.S.Shelf.told c.args.shelf.now) (g.R.Remote.files c.args.remote.now)
    (λ x y z. HoldsAll (world_of poms x y z) c.args.given.now c.args.store → IfOk (Err c.in-Err.fault) (λ (found : ProjectModels). HoldsAll (world_of found.poms x y z) c.args.given.now found.store))
    (λ x y z holds. tt)
