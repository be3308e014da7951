use Rattle.resolution.proofs.Laws.{one_scope}
use Rattle.resolution.proofs.scope_law.one_widest_scope.Goals as goal

pub returns : goal.returns
returns c = one_scope
