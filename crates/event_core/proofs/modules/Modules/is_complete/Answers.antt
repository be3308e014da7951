use Rattle.std.proofs.Common.{nat_eq, ap, ◌∙◌}
use Rattle.std.specs.List.{list_all}
use Rattle.event_core.specs.HowFar.{is_over}
use Rattle.event_core.proofs.Changes.{complete_is}
use Rattle.event_core.proofs.modules.Modules.is_complete.Goals as goal

pub returns : goal.returns
returns c = ap (λ n. nat_eq n 0) c.self.invariant.all_open ∙ complete_is c.self.inside.progress.items ∙ ap (λ v. list_all is_over v.1) c.self.view_is
