use Rattle.reactor.proofs.Built.{one_answer}
use Rattle.reactor.proofs.Ordered.{one_order}
use Rattle.reactor.proofs.selected_law.one_reactor.Goals as goal

pub returns : goal.returns
returns c = record { order = one_order; built = one_answer }
