use Rattle.std.proofs.Common.{ap, ◌∙◌}
use Rattle.build_core.specs.OneThread.{Progress}
use Rattle.run_law.specs.Given.{supply_by}
use Rattle.run_law.proofs.Laws.{again_same}
use Rattle.module_plan.specs.Plans.{present_in}
use Rattle.call_laws.proofs.Planless.{build_same, report_same, told}
use Rattle.call_laws.proofs.over_plan.over_one_plan.Goals as goal

pub returns : goal.returns
returns c = record {
  ends = λ plan start between remote said sound lies.
      build_same plan (present_in between plan.files) (supply_by between remote said) ∙ again_same plan start between remote said sound lies;
  outcome = λ plan details start between remote said sound lies.
      report_same plan (present_in between plan.files) details (supply_by between remote said)
      ∙ ap (λ (progress : Progress). told plan (present_in between plan.files) plan details (supply_by start remote said) progress) (again_same plan start between remote said sound lies);
}
