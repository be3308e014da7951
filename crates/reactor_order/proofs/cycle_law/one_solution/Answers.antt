use Rattle.reactor_order.proofs.Single.{one_kept, one_selected}
use Rattle.reactor_order.proofs.cycle_law.one_solution.Goals as goal

pub returns : goal.returns
returns c = record { kept = one_kept; selected = one_selected }
