use Rattle.std.proofs.Common.{None, sym, ap, ◌∙◌}
use Rattle.event_core.specs.declared.refused.NotEnabled.TheVariants.{Worker}
use Rattle.event_core.specs.Standing.{module_of}
use Rattle.event_core.specs.Causes.{where_found}
use Rattle.event_core.proofs.standing.Standing.busy_cause.Goals as goal

pub returns-in-Some : goal.returns-in-Some
returns-in-Some c = λ outline. ap (λ m. where_found m (λ at. Worker at) None) (sym c.in-Some.is ∙ c.module.ensures outline ∙ ap module_of (c.course.ensures.at outline))

pub returns-in-None : goal.returns-in-None
returns-in-None c = λ outline. ap (λ m. where_found m (λ at. Worker at) None) (sym c.in-None.is ∙ c.module.ensures outline ∙ ap module_of (c.course.ensures.at outline))
