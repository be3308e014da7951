use Rattle.collector.proofs.Positions.{direct_ascends, transitive_ascends}
use Rattle.collector.proofs.law.declarations_ascend.Goals as goal

pub returns-clause-direct : goal.returns-clause-direct
returns-clause-direct c = direct_ascends

pub returns-clause-transitive : goal.returns-clause-transitive
returns-clause-transitive c = transitive_ascends
