use Rattle.std.proofs.Common.{◌≡◌, IfOk, subst}
use Rattle.pom_model.specs.Groups.{dependencies}
use Rattle.pom_model.proofs.base.managed.Goals as goal

pub returns : goal.returns
returns c = subst (λ o. IfOk c.list_in.result (λ list. list ≡ dependencies c.args.nodes.now o)) c.child-management.ensures c.list_in.ensures
