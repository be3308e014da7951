use Rattle.std.proofs.Common.{ap, ◌∙◌}
use Rattle.managed_deps.specs.Managed.{add}
use Rattle.managed_deps.proofs.set.ManagedSet.add.Goals as goal

pub returns : goal.returns
returns c =
    c.in_ok-add_row.ensures ∙ ap (λ l. add l c.in_ok-share.field-0) c.self.view_is
    ∙ ap (λ d. add c.args.self.now d) c.in_ok-share.ensures
