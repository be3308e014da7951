use Rattle.std.proofs.Common.{◌≡◌, Ok, Err}
use Rattle.pom_source.specs.Answers.{Fails}
use Rattle.project_models.specs.Models.{Modules}
use Rattle.module_plan.specs.Plans.{numbered}
use Rattle.build_plan.specs.Planning.{IsPlanned, IsReactor, Plans, sources_of}
use Rattle.build_plan.specs.declared.planning.PlanFault.TheVariants as faults
use Rattle.build_plan.proofs.Made.{all_named, is_plan}
use Rattle.build_plan.proofs.Steps.{planned_is, size_fails}
use Rattle.build_plan.proofs.Tells.{shelf_told}
use Rattle.build_plan.proofs.Known.{knows_files}
use Rattle.build_plan.proofs.reading.plan_read.Goals as goal

pub plan_selected-requires : goal.plan_selected-requires
plan_selected-requires g c =
    let r = c.args.reactor in
    record { named = all_named r.poms r.models r.resolutions r.built c.args.sources c.in-Ok.modules c.requires.selected c.in-Ok.ensures }

pub returns-in-Ok-plan_selected-clause-says : goal.returns-in-Ok-plan_selected-clause-says
returns-in-Ok-plan_selected-clause-says g c = λ tree remote given.
    let r = c.args.reactor in
    let p : Modules = record { poms = r.poms; models = r.models } in
    let line = c.args.line.now in
    let modules = c.in-Ok.modules in
    let planned = c.in-Ok-plan_selected.planned in
    shelf_told tree (g.S.Shelf.told c.args.shelf.now) remote
    (λ y. numbered line.phase line.workers y modules ≡ Ok planned)
    (λ x y z. IsReactor x y z given line p r.resolutions r.built → sources_of x y z given line p r.built ≡ Ok c.args.sources → IsPlanned x y z given line planned)
    (λ x y z is. planned_is x y z given line p r.resolutions r.built c.args.sources modules planned c.in-Ok.ensures is)
    c.in-Ok-plan_selected.ensures.says

pub returns-in-Ok-plan_selected-clause-made : goal.returns-in-Ok-plan_selected-clause-made
returns-in-Ok-plan_selected-clause-made g c =
    let r = c.args.reactor in
    is_plan r.poms r.models r.resolutions r.built c.args.sources c.in-Ok.modules c.requires.selected c.in-Ok.ensures
    c.args.line.now c.in-Ok-plan_selected.planned c.requires.workers c.requires.modules.lawful c.in-Ok-plan_selected.ensures.made

pub returns-in-Err-plan_selected-clause-says : goal.returns-in-Err-plan_selected-clause-says
returns-in-Err-plan_selected-clause-says g c = λ tree remote given.
    let r = c.args.reactor in
    let p : Modules = record { poms = r.poms; models = r.models } in
    let line = c.args.line.now in
    let modules = c.in-Ok.modules in
    let fault = c.in-Err-plan_selected.fault in
    shelf_told tree (g.S.Shelf.told c.args.shelf.now) remote
    (λ y. Fails (numbered line.phase line.workers y modules) fault)
    (λ x y z. IsReactor x y z given line p r.resolutions r.built → sources_of x y z given line p r.built ≡ Ok c.args.sources → Plans x y z given line (Err (faults.Build fault)))
    (λ x y z is. size_fails x y z given line p r.resolutions r.built c.args.sources modules fault c.in-Ok.ensures is)
    c.in-Err-plan_selected.ensures.says

pub returns-in-Ok-plan_selected-clause-present : goal.returns-in-Ok-plan_selected-clause-present
returns-in-Ok-plan_selected-clause-present g c =
    let line = c.args.line.now in
    knows_files line.phase line.workers (g.S.Shelf.told c.args.shelf.now) c.in-Ok.modules c.in-Ok-plan_selected.planned c.in-Ok-plan_selected.ensures.says
