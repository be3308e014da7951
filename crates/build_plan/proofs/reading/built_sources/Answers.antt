use Rattle.std.proofs.Common.{◌≡◌, ℕ, List, length, IfOk, IfSome, ap, subst, ◌∙◌}
use Rattle.goal_types.specs.declared.goal.SourceFile.{SourceFile}
use Rattle.model_types.specs.declared.model.Model.{Model}
use Rattle.pom_source.specs.Answers.{Says}
use Rattle.sources.specs.Modules.{module_sources}
use Rattle.build_plan.proofs.Lists.{as_many}
use Rattle.build_plan.proofs.reading.built_sources.Goals as goal

pub returns-in-Ok-clause-says : goal.returns-in-Ok-clause-says
returns-in-Ok-clause-says g c =
    subst (λ (models : List Model). IfSome (g.T.Tree.files c.args.tree.now) (λ files. Says (module_sources files c.args.given.now.machine.root models) c.module_sources.result))
    (c.as_slice.ensures ∙ c.in-Ok.ensures) c.module_sources.ensures.says

pub returns-in-Ok-clause-long : goal.returns-in-Ok-clause-long
returns-in-Ok-clause-long g c =
    subst (λ (n : ℕ). IfOk c.module_sources.result (λ (sources : List (List SourceFile)). length sources ≡ n))
    (ap length (c.as_slice.ensures ∙ c.in-Ok.ensures) ∙ as_many c.args.models.now c.args.built.now.numbers c.requires.below) c.module_sources.ensures.long
