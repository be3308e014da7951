use Rattle.std.proofs.Common.{◌≡◌, ℕ, Option, Ok, Err, IfOk, subst}
use Rattle.mvn_outside.specs.declared.shelf.ShelfTold.{ShelfTold}
use Rattle.pom_source.specs.Answers.{Fails}
use Rattle.effective.specs.Kept.{HoldsAll}
use Rattle.model_resolver.specs.Devices.{Counts}
use Rattle.model_resolver.specs.Finding.{world_of}
use Rattle.model_resolver.proofs.Counting.{counted_twice}
use Rattle.project_models.specs.Models.{Modules, project_models}
use Rattle.project_models.proofs.Told.{told_one, told_same, told_two}
use Rattle.build_plan.specs.Planning.{IsProject, KnowsFiles, Plans}
use Rattle.build_plan.specs.declared.planning.PlanFault.TheVariants as faults
use Rattle.build_plan.proofs.Steps.{poms_fail}
use Rattle.build_plan.proofs.planning.plan_counted.Goals as goal

pub returns-in-Ok-clause-says : goal.returns-in-Ok-clause-says
returns-in-Ok-clause-says g c =
    let f = c.in-Ok.found in
    let p : Modules = record { poms = f.poms; models = f.models } in
    let given = c.args.given.now in
    let line = c.args.line.now in
    let a = g.T.Tree.files c.args.tree.now in
    let b = g.S.Shelf.told c.args.shelf.now in
    let d = g.R.Remote.files c.args.remote.now in
    told_two a b d
    (λ x y z. IsProject x y z given line p × HoldsAll (world_of f.poms x y z) given f.store)
    (λ x y z. HoldsAll (world_of f.poms x y z) given f.store → IsProject x y z given line p → Plans x y z given line c.plan_found.result)
    (λ x y z. Plans x y z given line c.plan_found.result)
    (λ x y z first next. next first.1 first.0)
    (told_two a b d (λ x y z. project_models x y z given ≡ Ok p) (λ x y z. HoldsAll (world_of f.poms x y z) given f.store)
    (λ x y z. IsProject x y z given line p × HoldsAll (world_of f.poms x y z) given f.store) (λ x y z is holds. (is, holds))
    c.in-Ok.ensures.says c.in-Ok.ensures.holds)
    (told_same a (g.T.Tree.files c.project_models.new.tree) b (g.S.Shelf.told c.project_models.new.shelf) d (g.R.Remote.files c.project_models.new.remote)
    (λ x y z. HoldsAll (world_of f.poms x y z) given f.store → IsProject x y z given line p → Plans x y z given line c.plan_found.result)
    c.in-Ok.ensures.tree c.in-Ok.ensures.shelf c.in-Ok.ensures.remote c.plan_found.ensures.says)

pub returns-in-Err-clause-says : goal.returns-in-Err-clause-says
returns-in-Err-clause-says g c =
    let given = c.args.given.now in
    let line = c.args.line.now in
    told_one (g.T.Tree.files c.args.tree.now) (g.S.Shelf.told c.args.shelf.now) (g.R.Remote.files c.args.remote.now)
    (λ x y z. Fails (project_models x y z given) c.in-Err.fault)
    (λ x y z. Plans x y z given line (Err (faults.Build c.in-Err.fault)))
    (λ x y z is. poms_fail x y z given line c.in-Err.fault is)
    c.in-Err.ensures.says

pub returns-in-Ok-clause-counted : goal.returns-in-Ok-clause-counted
returns-in-Ok-clause-counted g c =
    let counts : ℕ → ℕ → ℕ → Counts = λ t s r. record { tree = t; shelf = s; remote = r } in
    counted_twice c.args.failures.now.first c.project_models.new.failures.first c.plan_found.new.failures.first
    (counts (g.T.Files.faults c.args.tree.now) (g.S.Shelf.faults c.args.shelf.now) (g.R.Remote.faults c.args.remote.now))
    (counts (g.T.Files.faults c.project_models.new.tree) (g.S.Shelf.faults c.project_models.new.shelf) (g.R.Remote.faults c.project_models.new.remote))
    (counts (g.T.Files.faults c.plan_found.new.tree) (g.S.Shelf.faults c.plan_found.new.shelf) (g.R.Remote.faults c.plan_found.new.remote))
    c.in-Ok.ensures.counted c.plan_found.ensures.counted

pub returns-in-Ok-clause-present : goal.returns-in-Ok-clause-present
returns-in-Ok-clause-present g c = subst (λ (told : Option ShelfTold). IfOk c.plan_found.result (KnowsFiles told)) c.in-Ok.ensures.shelf c.plan_found.ensures.present
