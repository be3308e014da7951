use Rattle.built_modules.proofs.Ordered.{are_ordered}
use Rattle.built_modules.proofs.law.built_are_ordered.Goals as goal

pub returns : goal.returns
returns c = are_ordered
