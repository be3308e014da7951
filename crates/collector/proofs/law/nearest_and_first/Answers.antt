use Rattle.collector.proofs.Apart.{one_winner}
use Rattle.collector.proofs.Ascends.{ascending, least}
use Rattle.collector.proofs.Direct.{direct_stands}
use Rattle.collector.proofs.Firsts.{first_counts}
use Rattle.collector.proofs.law.nearest_and_first.Goals as goal

pub returns-clause-first : goal.returns-clause-first
returns-clause-first c = first_counts

pub returns-clause-ascending : goal.returns-clause-ascending
returns-clause-ascending c = ascending

pub returns-clause-one : goal.returns-clause-one
returns-clause-one c = one_winner

pub returns-clause-direct : goal.returns-clause-direct
returns-clause-direct c = direct_stands

pub returns-clause-least : goal.returns-clause-least
returns-clause-least c = least
