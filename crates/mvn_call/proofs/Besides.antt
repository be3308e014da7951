-- What is told of the modules of a plan besides.
use Rattle.std.proofs.Common.{◌≡◌, ℕ, Bool, List, ap, ◌∙◌}
use Rattle.model_types.specs.declared.model.Model.{Model}
use Rattle.classpaths.specs.declared.resolution.Resolution.{Resolution}
use Rattle.report.specs.declared.details.Details.{Details}
use Rattle.report.specs.FullDetails.{details_of}
use Rattle.module_plan.specs.declared.selected.Planned.{Planned}
use Rattle.call_plan.specs.Headline.{told_of}

-- by its models, what they are built with, and the notes of what is unbound
pub told_by : (full : Bool) (p : Planned) (models : List Model) (resolutions : List Resolution) (unbound : List (List (List ℕ))) (d : List Details) → models ≡ p.models → resolutions ≡ p.resolutions → unbound ≡ p.unbound
    → d ≡ details_of full models resolutions unbound → d ≡ told_of full p
told_by full p models resolutions unbound d m r u e =
    e ∙ ap (λ (models : List Model). details_of full models resolutions unbound) m ∙ ap (λ (resolutions : List Resolution). details_of full p.models resolutions unbound) r ∙ ap (details_of full p.models p.resolutions) u
