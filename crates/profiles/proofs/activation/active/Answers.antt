use Rattle.profiles.proofs.Joins.{alone_same, same_answer}
use Rattle.profiles.proofs.activation.active.Goals as goal

pub returns-clause-alone : goal.returns-clause-alone
returns-clause-alone g c = alone_same c.active_among.result c.in_ok-judge.ensures c.active_among.ensures.alone

pub returns-clause-tells : goal.returns-clause-tells
returns-clause-tells g c = λ world fits. same_answer c.active_among.result (c.active_among.ensures.asks.tells world fits) (c.in_ok-judge.ensures.places world)
