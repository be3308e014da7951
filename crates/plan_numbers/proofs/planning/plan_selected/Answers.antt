use Rattle.std.proofs.Common.{sym, ◌∙◌}
use Rattle.std.proofs.lemmas.Option.{IfSome_then}
use Rattle.mvn_outside.specs.Shelf.{files_now}
use Rattle.module_plan.specs.Plans.{IsNumbered}
use Rattle.plan_numbers.specs.Stages.{IsAssembled}
use Rattle.plan_numbers.proofs.SelectedCounting.{made, ok_then, said}
use Rattle.plan_numbers.proofs.planning.plan_selected.Goals as goal

pub returns-in-Some-clause-says : goal.returns-in-Some-clause-says
returns-in-Some-clause-says g c =
    IfSome_then (g.S.Shelf.told c.args.shelf.now) c.with_present.ensures.says
    (λ t h. said c.args.phase c.args.workers (files_now t) c.args.modules c.in-Some.numbered c.with_present.result (sym c.in-Some.is ∙ c.in-Ok.ensures) h)

pub returns-in-Some-clause-made : goal.returns-in-Some-clause-made
returns-in-Some-clause-made g c =
    ok_then (IsAssembled c.in-Some.numbered c.args.workers) (IsNumbered c.args.phase c.args.workers c.args.modules) c.with_present.result
    (λ p h. made c.args.phase c.args.workers c.args.modules c.in-Some.numbered p (sym c.in-Some.is ∙ c.in-Ok.ensures) h)
    c.with_present.ensures.made
