use Rattle.std.proofs.Common.{◌≡◌, ℕ, Ok, Err}
use Rattle.pom_source.specs.Answers.{Fails}
use Rattle.model_resolver.specs.Devices.{Counts}
use Rattle.model_resolver.proofs.Counting.{counted_twice}
use Rattle.project_models.specs.Models.{Modules}
use Rattle.project_models.proofs.Told.{told_two}
use Rattle.sources.specs.Modules.{module_sources}
use Rattle.build_plan.specs.Planning.{IsReactor, Plans, built_models, sources_of}
use Rattle.build_plan.specs.declared.planning.PlanFault.TheVariants as faults
use Rattle.build_plan.proofs.Steps.{sources_fail}
use Rattle.build_plan.proofs.Tells.{tree_told}
use Rattle.build_plan.proofs.reading.plan_built.Goals as goal

pub returns-in-Ok-clause-says : goal.returns-in-Ok-clause-says
returns-in-Ok-clause-says g c = λ remote.
    let r = c.args.reactor in
    let p : Modules = record { poms = r.poms; models = r.models } in
    let given = c.args.given.now in
    let line = c.args.line.now in
    let a = g.T.Tree.files c.args.tree.now in
    let b = g.S.Shelf.told c.args.shelf.now in
    told_two a b remote
    (λ x y z. sources_of x y z given line p r.built ≡ Ok c.in-Ok.sources)
    (λ x y z. IsReactor x y z given line p r.resolutions r.built → sources_of x y z given line p r.built ≡ Ok c.in-Ok.sources → Plans x y z given line c.plan_read.result)
    (λ x y z. IsReactor x y z given line p r.resolutions r.built → Plans x y z given line c.plan_read.result)
    (λ x y z read next reactor. next reactor read)
    (tree_told a b remote (λ x. module_sources x given.machine.root (built_models r.models r.built) ≡ Ok c.in-Ok.sources)
    (λ x y z. sources_of x y z given line p r.built ≡ Ok c.in-Ok.sources) (λ x y z is. is) c.in-Ok.ensures.says)
    (c.plan_read.ensures.says a remote given)

pub returns-in-Err-clause-says : goal.returns-in-Err-clause-says
returns-in-Err-clause-says g c = λ remote.
    let r = c.args.reactor in
    let p : Modules = record { poms = r.poms; models = r.models } in
    let given = c.args.given.now in
    let line = c.args.line.now in
    tree_told (g.T.Tree.files c.args.tree.now) (g.S.Shelf.told c.args.shelf.now) remote
    (λ x. Fails (module_sources x given.machine.root (built_models r.models r.built)) c.in-Err.fault)
    (λ x y z. IsReactor x y z given line p r.resolutions r.built → Plans x y z given line (Err (faults.Build c.in-Err.fault)))
    (λ x y z is reactor. sources_fail x y z given line p r.resolutions r.built c.in-Err.fault reactor is)
    c.in-Err.ensures.says

pub returns-in-Ok-clause-counted : goal.returns-in-Ok-clause-counted
returns-in-Ok-clause-counted g c = λ remote.
    let counts : ℕ → ℕ → ℕ → Counts = λ t s r. record { tree = t; shelf = s; remote = r } in
    let shelf = g.S.Shelf.faults c.args.shelf.now in
    let tree = g.T.Files.faults c.built_sources.new.tree in
    counted_twice c.args.failures.now.first c.built_sources.new.failures.first c.plan_read.new.failures.first
    (counts (g.T.Files.faults c.args.tree.now) shelf remote) (counts tree shelf remote) (counts tree (g.S.Shelf.faults c.plan_read.new.shelf) remote)
    (c.in-Ok.ensures.counted shelf remote) (c.plan_read.ensures.counted tree remote)
