use Rattle.std.proofs.Common.{Err, sym, subst}
use Rattle.project_models.specs.Models.{Modules}
use Rattle.project_models.proofs.Told.{told_any, told_one}
use Rattle.build_plan.specs.Planning.{AreResolved, IsReactor, NamesWord, Plans}
use Rattle.build_plan.specs.declared.planning.PlanFault.{PlanFault}
use Rattle.build_plan.proofs.Made.{are_selected}
use Rattle.build_plan.proofs.Steps.{reactor_fails}
use Rattle.build_plan.proofs.Words.{names_word}
use Rattle.build_plan.proofs.planning.plan_resolved.Goals as goal

pub plan_built-requires-clause-selected : goal.plan_built-requires-clause-selected
plan_built-requires-clause-selected g c =
    let p = c.args.project in
    are_selected p.poms p.models p.resolutions c.args.line.now c.in-Ok.built c.requires.modules c.in-Ok.ensures.order c.in-Ok.ensures.says

pub returns-in-Ok-clause-says : goal.returns-in-Ok-clause-says
returns-in-Ok-clause-says g c = λ remote.
    let r = c.args.project in
    let p : Modules = record { poms = r.poms; models = r.models } in
    let given = c.args.given.now in
    let line = c.args.line.now in
    told_one (g.T.Tree.files c.args.tree.now) (g.S.Shelf.told c.args.shelf.now) remote
    (λ x y z. IsReactor x y z given line p r.resolutions c.in-Ok.built → Plans x y z given line c.plan_built.result)
    (λ x y z. AreResolved x y z given line p r.resolutions → Plans x y z given line c.plan_built.result)
    (λ x y z next resolved. next (record { resolved = resolved; selected = c.in-Ok.ensures.says }))
    (c.plan_built.ensures.says remote)

pub returns-in-Err-clause-says : goal.returns-in-Err-clause-says
returns-in-Err-clause-says g c = λ remote.
    let r = c.args.project in
    let p : Modules = record { poms = r.poms; models = r.models } in
    let given = c.args.given.now in
    let line = c.args.line.now in
    told_any (g.T.Tree.files c.args.tree.now) (g.S.Shelf.told c.args.shelf.now) remote
    (λ x y z. AreResolved x y z given line p r.resolutions → Plans x y z given line (Err c.fault_of.result))
    (λ x y z resolved. subst (λ (fault : PlanFault). Plans x y z given line (Err fault)) (sym c.fault_of.ensures.same)
    (reactor_fails x y z given line p r.resolutions c.in-Err.fault c.in-Err.ensures.says resolved))

pub returns-in-Err-clause-word : goal.returns-in-Err-clause-word
returns-in-Err-clause-word g c =
    let r = c.args.project in
    let line = c.args.line.now in
    subst (λ (fault : PlanFault). NamesWord line (Err fault)) (sym c.fault_of.ensures.same) (names_word r.models r.resolutions line c.in-Err.fault c.in-Err.ensures.says)
