use Rattle.std.proofs.Common.{◌≡◌, [], zip, None}
use Rattle.mvn_base.specs.declared.refusal.PomId.TheVariants as ids
use Rattle.mvn_base.specs.declared.rule.Rule.TheVariants.{DuplicateProject}
use Rattle.pom_source.specs.Refusals.{text_refused}
use Rattle.project_models.specs.Models.{first_double}
use Rattle.project_models.proofs.Giving.{refused_none}
use Rattle.project_models.proofs.project.refused_double.Goals as goal

pub returns-in-Some-clause-none : goal.returns-in-Some-clause-none
returns-in-Some-clause-none c =
    refused_none _ (text_refused (ids.Path c.in-Some.double.later) DuplicateProject c.in-Some.double.earlier) c.refuse.result
    (λ all. first_double [] (zip c.args.poms.now c.args.models.now) ≡ None) c.refuse.ensures.says
