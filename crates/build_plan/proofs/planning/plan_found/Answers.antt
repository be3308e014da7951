use Rattle.std.proofs.Common.{ℕ, List, Option, Result, Ok, Err, IfOk, refl, subst}
use Rattle.classpaths.specs.declared.resolution.Resolution.{Resolution}
use Rattle.model_types.specs.declared.model.Model.{Model}
use Rattle.mvn_outside.specs.declared.shelf.ShelfTold.{ShelfTold}
use Rattle.pom_source.specs.declared.fault.BuildFault.{BuildFault}
use Rattle.effective.specs.Kept.{HoldsAll}
use Rattle.model_resolver.specs.Devices.{Counts}
use Rattle.model_resolver.specs.Finding.{world_of}
use Rattle.model_resolver.specs.declared.resolver.ProjectPom.{ProjectPom}
use Rattle.model_resolver.proofs.Counting.{counted_twice}
use Rattle.project_models.specs.Models.{Modules}
use Rattle.project_models.specs.Telling.{IfTold}
use Rattle.project_models.proofs.Told.{told_one, told_same, told_two}
use Rattle.project_libraries.specs.Known.{libraries_of}
use Rattle.project_libraries.specs.Resolving.{Resolves}
use Rattle.build_plan.specs.Planning.{AreResolved, IsProject, KnowsFiles, Libraries, Plans}
use Rattle.build_plan.specs.declared.planning.PlanFault.TheVariants as faults
use Rattle.build_plan.proofs.Steps.{libraries_fail}
use Rattle.build_plan.proofs.planning.plan_found.Goals as goal

pub returns-in-Ok-clause-says : goal.returns-in-Ok-clause-says
returns-in-Ok-clause-says g c =
    let f = c.args.found in
    let p : Modules = record { poms = f.poms; models = f.models } in
    let given = c.args.given.now in
    let line = c.args.line.now in
    let a = g.T.Tree.files c.args.tree.now in
    let b = g.S.Shelf.told c.args.shelf.now in
    let d = g.R.Remote.files c.args.remote.now in
    let answer : Result (List Resolution) BuildFault = Ok c.in-Ok.resolutions in
    let one = subst (λ (models : List Model). IfTold a b d (λ x y z. HoldsAll (world_of c.as_slice.result.now x y z) given f.store
    → Resolves (libraries_of x y z given c.as_slice.result.now models) c.as_slice.result.now models answer)) c.as_slice-2.ensures c.in-Ok.ensures.says in
    let two = subst (λ (poms : List ProjectPom). IfTold a b d (λ x y z. HoldsAll (world_of poms x y z) given f.store
    → Resolves (libraries_of x y z given poms f.models) poms f.models answer)) c.as_slice.ensures one in
    told_two a b d
    (λ x y z. HoldsAll (world_of f.poms x y z) given f.store → Libraries x y z given line p answer)
    (λ x y z. AreResolved x y z given line p c.in-Ok.resolutions → Plans x y z given line c.plan_resolved.result)
    (λ x y z. HoldsAll (world_of f.poms x y z) given f.store → IsProject x y z given line p → Plans x y z given line c.plan_resolved.result)
    (λ x y z said next holds project. next (record { project = project; resolved = said holds }))
    two
    (told_same a (g.T.Tree.files c.resolve_modules.new.tree) b (g.S.Shelf.told c.resolve_modules.new.shelf) d d
    (λ x y z. AreResolved x y z given line p c.in-Ok.resolutions → Plans x y z given line c.plan_resolved.result)
    c.in-Ok.ensures.tree c.in-Ok.ensures.shelf refl (c.plan_resolved.ensures.says d))

pub returns-in-Err-clause-says : goal.returns-in-Err-clause-says
returns-in-Err-clause-says g c =
    let f = c.args.found in
    let p : Modules = record { poms = f.poms; models = f.models } in
    let given = c.args.given.now in
    let line = c.args.line.now in
    let fault = c.in-Err.fault in
    let a = g.T.Tree.files c.args.tree.now in
    let b = g.S.Shelf.told c.args.shelf.now in
    let d = g.R.Remote.files c.args.remote.now in
    let answer : Result (List Resolution) BuildFault = Err fault in
    let one = subst (λ (models : List Model). IfTold a b d (λ x y z. HoldsAll (world_of c.as_slice.result.now x y z) given f.store
    → Resolves (libraries_of x y z given c.as_slice.result.now models) c.as_slice.result.now models answer)) c.as_slice-2.ensures c.in-Err.ensures.says in
    let two = subst (λ (poms : List ProjectPom). IfTold a b d (λ x y z. HoldsAll (world_of poms x y z) given f.store
    → Resolves (libraries_of x y z given poms f.models) poms f.models answer)) c.as_slice.ensures one in
    told_one a b d
    (λ x y z. HoldsAll (world_of f.poms x y z) given f.store → Libraries x y z given line p answer)
    (λ x y z. HoldsAll (world_of f.poms x y z) given f.store → IsProject x y z given line p → Plans x y z given line (Err (faults.Build fault)))
    (λ x y z said holds project. libraries_fail x y z given line p fault project (said holds))
    two

pub returns-in-Ok-clause-counted : goal.returns-in-Ok-clause-counted
returns-in-Ok-clause-counted g c =
    let counts : ℕ → ℕ → ℕ → Counts = λ t s r. record { tree = t; shelf = s; remote = r } in
    let remote = g.R.Remote.faults c.resolve_modules.new.remote in
    counted_twice c.args.failures.now.first c.resolve_modules.new.failures.first c.plan_resolved.new.failures.first
    (counts (g.T.Files.faults c.args.tree.now) (g.S.Shelf.faults c.args.shelf.now) (g.R.Remote.faults c.args.remote.now))
    (counts (g.T.Files.faults c.resolve_modules.new.tree) (g.S.Shelf.faults c.resolve_modules.new.shelf) remote)
    (counts (g.T.Files.faults c.plan_resolved.new.tree) (g.S.Shelf.faults c.plan_resolved.new.shelf) remote)
    c.in-Ok.ensures.counted (c.plan_resolved.ensures.counted remote)

pub returns-in-Ok-clause-present : goal.returns-in-Ok-clause-present
returns-in-Ok-clause-present g c = subst (λ (told : Option ShelfTold). IfOk c.plan_resolved.result (KnowsFiles told)) c.in-Ok.ensures.shelf c.plan_resolved.ensures.present
